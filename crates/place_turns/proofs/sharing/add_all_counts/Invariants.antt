use Rattle.std.proofs.Common.{length}
use mathlib.Core.List.{IsPrefix}
use Rattle.place_turns.specs.Counts.{AreAllSums}
use Rattle.place_turns.proofs.sharing.add_all_counts.Given as goal

abbrev pub invariant-loop-counts : goal.invariant-loop-counts
invariant-loop-counts l = record {
  from : IsPrefix l.from.items l.fn.from.items;
  sums : AreAllSums (length l.from.items) l.initial.into.items l.fn.from.items l.into.items;
}

abbrev pub decreases-loop-counts : goal.decreases-loop-counts
decreases-loop-counts l = goal.left-loop-counts l
