use Rattle.solo_tests.specs.Examples.{IsGoing}
use Rattle.solo_tests.proofs.tests.cut.each_length_is_sent.Given as goal

abbrev pub invariant-loop-length : goal.invariant-loop-length
invariant-loop-length l = IsGoing 0 l.plane
