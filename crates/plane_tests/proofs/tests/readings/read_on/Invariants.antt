use Rattle.std.proofs.Common.{◌≡◌}
use Rattle.plane.specs.Planes.{board_of}
use Rattle.plane_tests.proofs.tests.readings.read_on.Given as goal

abbrev pub invariant-loop-number : goal.invariant-loop-number
invariant-loop-number l = l.gauge.board ≡ board_of l.plane
