use Rattle.solo_tests.specs.Examples.{IsGoing}
use Rattle.solo_tests.proofs.tests.planes.go.Given as goal

abbrev pub invariant-loop-letter : goal.invariant-loop-letter
invariant-loop-letter l = IsGoing l.count l.plane
