use Rattle.solo_tests.specs.Examples.{IsGoing}
use Rattle.solo_tests.proofs.tests.cut.each_front_is_sent.Given as goal

abbrev pub invariant-loop-there : goal.invariant-loop-there
invariant-loop-there l = IsGoing 0 l.plane
