use Rattle.plane_tests.specs.Examples.{AreGoing}
use Rattle.plane_tests.proofs.tests.readings.take_turns.Given as goal

abbrev pub invariant-loop-number : goal.invariant-loop-number
invariant-loop-number g l = AreGoing l.plane l.feeder l.ports
