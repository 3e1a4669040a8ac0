use Rattle.std.proofs.Common.{◌≡◌, [], arith}
use Rattle.std.proofs.lemmas.List.{nil_from_length}
use Rattle.std.specs.Vec.Iter.{into_iter_items}
use Rattle.journey_audit.specs.Following.{asked_after}
use Rattle.journey_audit.proofs.Tallies.{asking_begun, asking_one, asking_done}
use Rattle.journey_audit.proofs.following.all_ask.Goals as goal

pub loop-card-init : goal.loop-card-init
loop-card-init c =
    asking_begun (asked_after c.args.tables.now c.args.key) c.args.leavers.items _
    c.args.tallies.now c.into_iter-card-iterator.ensures.into_iter_gives.0

pub loop-card-preserved : goal.loop-card-preserved
loop-card-preserved c =
    asking_one (asked_after c.args.tables.now c.args.key) c.args.leavers.items
    (into_iter_items c.loop-card.card-iterator) (c.in-Some.card, c.in-Some.decision)
    (into_iter_items c.next.new.self) c.args.tallies.now c.loop-card.tallies c.ask.new.tallies
    c.in-Some.ensures.steps.0 c.in_ok-ask.ensures c.loop-card.invariant

pub returns : goal.returns
returns c =
    let none : into_iter_items c.loop-card.card-iterator ≡ [] =
    nil_from_length (into_iter_items c.loop-card.card-iterator)
    (omega (arith, c.in-None.ensures.steps.0)) in
    asking_done (asked_after c.args.tables.now c.args.key) c.args.leavers.items
    (into_iter_items c.loop-card.card-iterator) c.args.tallies.now c.loop-card.tallies none
    c.loop-card.invariant
