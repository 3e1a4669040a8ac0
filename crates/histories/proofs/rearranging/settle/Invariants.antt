use Rattle.histories.proofs.PlaceSwaps.{IsSettling}
use Rattle.histories.proofs.rearranging.settle.Given as goal

abbrev pub invariant-loop-place : goal.invariant-loop-place
invariant-loop-place g l = IsSettling l.fn.from l.from l.to l.fn.list l.list l.place
