use Rattle.std.proofs.Common.{◌≡◌, ℕ, Option, ap, subst, ◌∙◌}
use Rattle.std.specs.Prelude.{IfOk, OnErr}
use Rattle.packet_moves.specs.World.{World, Port}
use Rattle.packet_moves.specs.Messages.{CarriesOut, call_at}
use Rattle.solo_plane.specs.PortView.{world_of, ports_of}
use Rattle.solo_plane.proofs.SentMessage.{on_ok}
use Rattle.solo_plane.proofs.UnchangedLogs.{room_stays, call_stays, open_stays, open_same}
use Rattle.solo_plane.proofs.messages.carry_out_with_room.Goals as goal
use Rattle.solo_plane.proofs.messages.carry_out_with_room.Goals.{In_ok-make_log_room}

-- the room alone changes nothing
same_world : (c : In_ok-make_log_room) →
    record (world_of c.args.held.now) { ports = ports_of c.make_log_room.new.ports }
    ≡ world_of c.args.held.now
same_world c =
    ap (λ (ports : ℕ → Option Port). record (world_of c.args.held.now) { ports = ports })
    c.make_log_room.ensures.same

pub returns-clause-room : goal.returns-clause-room
returns-clause-room c =
    on_ok c.carry_out.result
    (room_stays c.make_log_room.new.ports c.carry_out.new.held.ports c.args.port
    c.carry_out.ensures.logs c.in_ok-make_log_room.ensures.ok)

pub returns-clause-carried_out : goal.returns-clause-carried_out
returns-clause-carried_out c =
    let P : World → Type 0 =
    λ w. IfOk c.carry_out.result (CarriesOut c.args.setting.now c.args.port c.args.call
    c.args.decoded w (world_of c.carry_out.new.held)) in
    subst P (same_world (goal.at.returns-clause-carried_out c).In_ok-make_log_room)
    c.carry_out.ensures.carried_out

pub returns-clause-number : goal.returns-clause-number
returns-clause-number c =
    call_stays c.make_log_room.new.ports c.carry_out.new.held.ports c.args.port
    c.carry_out.ensures.logs
    ∙ ap (λ (ports : ℕ → Option Port). call_at (ports c.args.port)) c.make_log_room.ensures.same

pub returns-clause-ports : goal.returns-clause-ports
returns-clause-ports c p =
    open_stays c.make_log_room.new.ports c.carry_out.new.held.ports c.carry_out.ensures.logs p
    ∙ open_same (ports_of c.args.held.now.ports) (ports_of c.make_log_room.new.ports)
    c.make_log_room.ensures.same p

pub returns-clause-err : goal.returns-clause-err
returns-clause-err c =
    let P : World → Type 0 =
    λ w. OnErr c.carry_out.result (world_of c.carry_out.new.held ≡ w) in
    subst P (same_world (goal.at.returns-clause-err c).In_ok-make_log_room) c.carry_out.ensures.err

pub returns-in_err-make_log_room-clause-ports : goal.returns-in_err-make_log_room-clause-ports
returns-in_err-make_log_room-clause-ports c =
    open_same (ports_of c.args.held.now.ports) (ports_of c.make_log_room.new.ports)
    c.make_log_room.ensures.same

pub returns-in_err-make_log_room-clause-number : goal.returns-in_err-make_log_room-clause-number
returns-in_err-make_log_room-clause-number c =
    ap (λ (ports : ℕ → Option Port). call_at (ports c.args.port)) c.make_log_room.ensures.same
