use Rattle.std.proofs.Common.{drop, ◌↔◌}
use Rattle.journey_audit.specs.Unmet.{AreAsMany}
use Rattle.journey_audit.proofs.tally.are_as_many.Given as goal

-- those that are left are as many as those that are left of the other
abbrev pub invariant-loop-arrival : goal.invariant-loop-arrival
invariant-loop-arrival l =
    AreAsMany l.came.items l.fn.asked.items
    ↔ AreAsMany (drop l.arrival-index l.came.items) l.asked.items
