use Rattle.std.proofs.Common.{ℕ, List, ◌++◌, Option, refl, subst}
use Rattle.netlink_codec.specs.Acknowledgements.{answer}
use Rattle.netlink_codec.specs.Messages.{NetlinkMessage, message_of}
use Rattle.place_turns.specs.Messages.{Sends}
use Rattle.place_turns.specs.Places.{places_of, setting_of}
use Rattle.place_turns.proofs.messages.message_unread.Goals as goal

pub returns-in_ok-_errno-in-Some-clause-sent : goal.returns-in_ok-_errno-in-Some-clause-sent
returns-in_ok-_errno-in-Some-clause-sent g c before =
    let after : List ℕ =
    before ++ answer (message_of c.in-Some.message) c.in_ok-_errno-in-Some._errno in
    let P : Option (NetlinkMessage × ℕ) → Type 0 =
    λ first. Sends (places_of c.args.turns.now.places.now) (setting_of c.args.turns.now.places.now)
    c.args.port first
    c.args.log.now.dids.items c.send_unread.new.log.dids.items c.args.passes.now.trail
    c.send_unread.new.passes.trail before after c.in-Some.used in (
      after,
      subst P c.in-Some.ensures.reading (refl, c.in_ok-_errno-in-Some.ensures.sent before),
    )

pub returns-in-None-clause-sent : goal.returns-in-None-clause-sent
returns-in-None-clause-sent g c before =
    let P : Option (NetlinkMessage × ℕ) → Type 0 =
    λ first. Sends (places_of c.args.turns.now.places.now) (setting_of c.args.turns.now.places.now)
    c.args.port first
    c.args.log.now.dids.items c.args.log.now.dids.items c.args.passes.now.trail
    c.args.passes.now.trail before before 0 in
    (before, subst P c.in-None.ensures.reading (refl, refl, refl, refl))
