use Rattle.std.proofs.Common.{◌≡◌, ℕ, List, ◌++◌, Option, ap, refl, sym, subst, ◌∙◌}
use Rattle.netlink_codec.specs.Acknowledgements.{answer}
use Rattle.netlink_codec.specs.Messages.{NetlinkMessage}
use Rattle.nfqa_msgs.specs.declared.request.Request.{Request}
use Rattle.nfqa_msgs.specs.RequestWriting.{spelled}
use Rattle.histories.specs.declared.log.AskWords.TheVariants.{Plain}
use Rattle.nfqa_msgs.specs.declared.request.Decoded.TheVariants.{Asked}
use Rattle.packet_moves.specs.Messages.{answered, call_at}
use Rattle.packet_moves.specs.World.{Port}
use Rattle.solo_plane.specs.PortView.{world_of, ports_of}
use Rattle.solo_plane.proofs.UnchangedLogs.{open_changed}
use Rattle.solo_plane.proofs.SentMessage.{sent_so, in_words}
use Rattle.solo_plane.proofs.messages.request_unread.Goals as goal

pub returns-clause-sent : goal.returns-clause-sent
returns-clause-sent c before =
    let number : ℕ = call_at (ports_of c.args.held.now.ports c.args.port) in
    let m : NetlinkMessage = spelled c.args.port number c.args.request in
    let after : List ℕ = before ++ answer m c.in_ok-errno.errno in (
      after,
      sent_so c.args.setting.now c.args.port m
          (world_of c.args.held.now) (world_of c.carry_out_with_room.new.held) _ before after
          c.in_ok-errno.errno c.next_call-call.result (Asked c.args.request)
          (Plain c.in_ok-logged.logged) c.due_to-answer.result c.next_call-call.ensures
          (sym (c.spelling_decodes_to_its_request.ensures.request c.args.port number
          c.args.request c.numbers_fit.ensures))
          (in_words c.args.port c.next_call-call.result number c.args.request
          c.in_ok-logged.logged c.next_call-call.ensures c.in_ok-logged.ensures)
          (subst (λ (r : Request). c.due_to-answer.result
          ≡ answered (spelled c.args.port number r) c.in_ok-errno.errno)
          c.in_ok-logged.ensures (c.due_to-answer.ensures c.args.port number))
          c.in_ok-errno.ensures.number c.in_ok-errno.ensures.carried_out
          (ap (λ (ports : ℕ → Option Port).
          record (world_of c.carry_out_with_room.new.held) { ports = ports }) c.send.ensures)
          refl,
    )

pub returns-clause-ports : goal.returns-clause-ports
returns-clause-ports c p =
    open_changed _ (λ x. refl) c.args.port (ports_of c.carry_out_with_room.new.held.ports)
    (ports_of c.send.new.ports) c.send.ensures p
    ∙ c.in_ok-errno.ensures.ports p
