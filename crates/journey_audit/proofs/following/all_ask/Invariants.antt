use Rattle.std.specs.Vec.Iter.{into_iter_items}
use Rattle.journey_audit.specs.Following.{asked_after}
use Rattle.journey_audit.proofs.Tallies.{IsAsking}
use Rattle.journey_audit.proofs.following.all_ask.Given as goal

abbrev pub invariant-loop-card : goal.invariant-loop-card
invariant-loop-card l =
    IsAsking (asked_after l.tables l.key) l.fn.leavers.items (into_iter_items l.card-iterator)
    l.fn.tallies l.tallies
