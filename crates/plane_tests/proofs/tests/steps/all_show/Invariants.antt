use Rattle.std.proofs.Common.{◌≡◌}
use Rattle.plane.specs.Planes.{board_of}
use Rattle.plane_tests.proofs.tests.steps.all_show.Given as goal

abbrev pub invariant-loop-shown : goal.invariant-loop-shown
invariant-loop-shown l = l.gauge.board ≡ board_of l.plane
