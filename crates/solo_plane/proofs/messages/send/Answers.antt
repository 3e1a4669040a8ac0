use Rattle.std.proofs.Common.{ℕ, List, ◌++◌, ap, subst, sym, ◌∙◌}
use Rattle.netlink_codec.specs.Acknowledgements.{answer}
use Rattle.netlink_codec.specs.Messages.{NetlinkMessage, message_of}
use Rattle.packet_moves.specs.Messages.{IsSent}
use Rattle.solo_plane.specs.PortView.{world_of}
use Rattle.solo_plane.proofs.messages.send.Goals as goal

pub returns-clause-sent : goal.returns-clause-sent
returns-clause-sent c =
    let m : NetlinkMessage = message_of c.args.message.now in
    let old : List ℕ = c.args.replies.now.items in
    let text : List ℕ = answer m c.in_ok-errno.errno in
    subst (λ (after : List ℕ). IsSent c.args.setting.now c.args.port m (world_of c.args.held.now)
    (world_of c.send_unread.new.held) old after)
    (sym (c.acknowledge.ensures
    ∙ ap (λ (xs : List ℕ). xs ++ text) c.in_ok-make_answer_room.ensures.same))
    (c.in_ok-errno.ensures.sent old)
