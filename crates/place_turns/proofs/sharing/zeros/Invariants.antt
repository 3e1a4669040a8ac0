use Rattle.place_turns.proofs.CountSums.{ZerosSoFar}
use Rattle.place_turns.proofs.sharing.zeros.Given as goal

abbrev pub invariant-loop-port : goal.invariant-loop-port
invariant-loop-port l = ZerosSoFar l.counts l.zeros l.port-iterator
