use Rattle.std.proofs.Common.{ℕ, Option, ap, refl, ◌∙◌}
use Rattle.netlink_codec.specs.Messages.{message_of}
use Rattle.packet_moves.specs.World.{Port}
use Rattle.solo_plane.specs.PortView.{world_of, ports_of}
use Rattle.solo_plane.proofs.UnchangedLogs.{open_changed}
use Rattle.solo_plane.proofs.SentMessage.{sent_so}
use Rattle.solo_plane.proofs.messages.send_unread.Goals as goal

pub returns-clause-sent : goal.returns-clause-sent
returns-clause-sent c before =
    sent_so c.args.setting.now c.args.port (message_of c.args.message.now)
    (world_of c.args.held.now) (world_of c.carry_out_with_room.new.held) _ before _
    c.in_ok-errno.errno c.next_call-call.result c.in_ok-decoded.decoded c.in_ok-words.words
    c.due.result c.next_call-call.ensures c.in_ok-decoded.ensures.value c.in_ok-words.ensures
    c.due.ensures c.in_ok-errno.ensures.number c.in_ok-errno.ensures.carried_out
    (ap (λ (ports : ℕ → Option Port).
    record (world_of c.carry_out_with_room.new.held) { ports = ports }) c.send.ensures)
    refl

pub returns-clause-ports : goal.returns-clause-ports
returns-clause-ports c p =
    open_changed _ (λ x. refl) c.args.port (ports_of c.carry_out_with_room.new.held.ports)
    (ports_of c.send.new.ports) c.send.ensures p
    ∙ c.in_ok-errno.ensures.ports p
