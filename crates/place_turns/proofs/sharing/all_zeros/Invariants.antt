use Rattle.place_turns.specs.Counts.{HaveZeros}
use Rattle.place_turns.proofs.sharing.all_zeros.Given as goal

abbrev pub invariant-loop-place : goal.invariant-loop-place
invariant-loop-place l = HaveZeros l.place l.counts l.all.items
