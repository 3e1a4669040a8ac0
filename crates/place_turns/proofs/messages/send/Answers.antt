use Rattle.std.proofs.Common.{ℕ, List, ◌++◌, ap, subst, sym, ◌∙◌}
use Rattle.netlink_codec.specs.Acknowledgements.{answer}
use Rattle.netlink_codec.specs.Messages.{NetlinkMessage, message_of}
use Rattle.place_turns.specs.Messages.{IsSent}
use Rattle.place_turns.specs.Places.{places_of, setting_of}
use Rattle.place_turns.proofs.messages.send.Goals as goal

pub returns-clause-sent : goal.returns-clause-sent
returns-clause-sent g c =
    let m : NetlinkMessage = message_of c.args.message.now in
    let old : List ℕ = c.args.replies.now.items in
    let text : List ℕ = answer m c.in_ok-errno.errno in
    subst (λ (after : List ℕ). IsSent (places_of c.args.turns.now.places.now) (setting_of
    c.args.turns.now.places.now)
    c.args.port m c.args.log.now.dids.items c.send_unread.new.log.dids.items
    c.args.passes.now.trail c.send_unread.new.passes.trail old after)
    (sym (c.acknowledge.ensures
    ∙ ap (λ (xs : List ℕ). xs ++ text) c.in_ok-make_answer_room.ensures.same))
    (c.in_ok-errno.ensures.sent old)
