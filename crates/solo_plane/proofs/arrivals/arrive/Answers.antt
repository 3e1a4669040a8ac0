use Rattle.std.proofs.Common.{◌<◌, Option, true, sym, ◌∙◌}
use Rattle.std.specs.Prelude.{IfSome, IsSome}
use Rattle.queue_core.specs.State.{Bound}
use Rattle.histories.specs.Journeys.{Arrival}
use Rattle.histories.specs.States.{state_of}
use Rattle.solo_plane.specs.PortView.{state_in, world_of, OnPort}
use Rattle.solo_plane.proofs.ArrivalOutcomes.{came_back, room_early, room_is, world_posted}
use Rattle.solo_plane.proofs.ArrivalOutcomes.{world_back}
use Rattle.solo_plane.proofs.ArrivalOutcomes.{came_as_waiting, on_ok, taken_had_room, port_is_there}
use Rattle.solo_plane.proofs.arrivals.arrive.Goals as goal

pub returns-in-Back-clause-came : goal.returns-in-Back-clause-came
returns-in-Back-clause-came c v =
    let a : Arrival =
    record { queue = c.args.queue; card = c.args.packet; bypass = c.args.bypass } in
    let w = world_of c.args.held.now in
    let back = rw (c.in-Back.is, c.make_room.ensures.place) at c.in_ok-outcome.ensures.begun in
    came_back c.args.setting.now w v a true c.in-Back.outcome c.in-Back.packet c.turned.result
    back.1 (room_early c.args.setting.now w (state_of w.entries a.queue) a.card back.0)
    c.turned.ensures.stands

pub returns-in-Waiting-clause-world : goal.returns-in-Waiting-clause-world
returns-in-Waiting-clause-world c =
    let a : Arrival =
    record { queue = c.args.queue; card = c.args.packet; bypass = c.args.bypass } in
    let w = world_of c.args.held.now in
    let offered = rw (c.in-Offered.is, c.make_room.ensures.place)
    at c.in_ok-outcome.ensures.begun in
    let begun = rw (c.in-Offered.is, c.make_room.ensures.place) at c.in_ok-outcome.ensures.state in
    let taken = rw begun at c.in-Waiting.ensures.settled in
    let after = rw begun at c.in-Waiting.ensures.state in
    let room = room_is c.args.setting.now w a _ _ _ _ offered c.make_room.ensures.ports
    c.takes_one-room.ensures in
    rw (
      after,
      c.deliver.ensures.ports,
      c.make_room.ensures.ports,
      c.make_room.ensures.fed,
      c.make_room.ensures.lost,
    ) (world_posted c.args.setting.now w a c.in-Offered.port c.in-Offered.letter _ _
    offered taken room)

pub returns-in-Waiting-clause-came : goal.returns-in-Waiting-clause-came
returns-in-Waiting-clause-came c v =
    let a : Arrival =
    record { queue = c.args.queue; card = c.args.packet; bypass = c.args.bypass } in
    let w = world_of c.args.held.now in
    let offered = rw (c.in-Offered.is, c.make_room.ensures.place)
    at c.in_ok-outcome.ensures.begun in
    let begun = rw (c.in-Offered.is, c.make_room.ensures.place) at c.in_ok-outcome.ensures.state in
    let taken = rw begun at c.in-Waiting.ensures.settled in
    let room = room_is c.args.setting.now w a _ _ _ _ offered c.make_room.ensures.ports
    c.takes_one-room.ensures in
    came_as_waiting c.args.setting.now w v a _ _ taken room

pub deliver-requires : goal.deliver-requires
deliver-requires c =
    let a : Arrival =
    record { queue = c.args.queue; card = c.args.packet; bypass = c.args.bypass } in
    let w = world_of c.args.held.now in
    let offered = rw (c.in-Offered.is, c.make_room.ensures.place)
    at c.in_ok-outcome.ensures.begun in
    let begun = rw (c.in-Offered.is, c.make_room.ensures.place) at c.in_ok-outcome.ensures.state in
    let taken = rw begun at c.in-Waiting.ensures.settled in
    let had = taken_had_room (state_of w.entries a.queue) a.card a.bypass c.takes_one-room.result
    taken.stays in
    let there = port_is_there c.args.setting.now.mail c.in-Offered.port _ _ c.args.held.now.ports
    c.make_room.ensures.ports c.takes_one-room.ensures had in
    let Ready : Option Bound → Type 0 =
    λ q. IfSome q (λ b. IsSome (state_in c.args.held.now.ports b.port) →
    OnPort c.make_room.new.held.ports b.port (λ p. 0 < p.mailbox.room)) in
    let ready = rw offered.state at (on_ok c.make_room.result (Ready (state_of w.entries a.queue))
    c.make_room.ensures.ok (sym c.is_err.ensures.value ∙ c.if-is_err.false)) in
    rw offered.to_port (ready (rw offered.to_port at there))

pub returns-in-Back-settle-clause-world : goal.returns-in-Back-settle-clause-world
returns-in-Back-settle-clause-world c =
    let a : Arrival =
    record { queue = c.args.queue; card = c.args.packet; bypass = c.args.bypass } in
    let w = world_of c.args.held.now in
    let offered = rw (c.in-Offered.is, c.make_room.ensures.place)
    at c.in_ok-outcome.ensures.begun in
    let begun = rw (c.in-Offered.is, c.make_room.ensures.place) at c.in_ok-outcome.ensures.state in
    let back = rw begun at c.in-Back-settle.ensures.settled in
    let after = rw begun at c.in-Back-settle.ensures.state in
    let room = room_is c.args.setting.now w a _ _ _ _ offered c.make_room.ensures.ports
    c.takes_one-room.ensures in
    rw (
      after,
      c.make_room.ensures.ports,
      c.make_room.ensures.fed,
      c.make_room.ensures.lost,
    ) (world_back c.args.setting.now w a _ _ _ back room)

pub returns-in-Back-settle-clause-came : goal.returns-in-Back-settle-clause-came
returns-in-Back-settle-clause-came c v =
    let a : Arrival =
    record { queue = c.args.queue; card = c.args.packet; bypass = c.args.bypass } in
    let w = world_of c.args.held.now in
    let offered = rw (c.in-Offered.is, c.make_room.ensures.place)
    at c.in_ok-outcome.ensures.begun in
    let begun = rw (c.in-Offered.is, c.make_room.ensures.place) at c.in_ok-outcome.ensures.state in
    let back = rw begun at c.in-Back-settle.ensures.settled in
    let room = room_is c.args.setting.now w a _ _ _ _ offered c.make_room.ensures.ports
    c.takes_one-room.ensures in
    came_back c.args.setting.now w v a _ _ _ c.turned-in-Back-settle.result back room
    c.turned-in-Back-settle.ensures.stands
