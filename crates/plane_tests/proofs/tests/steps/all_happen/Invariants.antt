use Rattle.std.proofs.Common.{◌≡◌, length}
use Rattle.plane.specs.Planes.{board_of}
use Rattle.plane_tests.specs.Examples.{AreGoing}
use Rattle.plane_tests.proofs.tests.steps.all_happen.Given as goal

abbrev pub invariant-loop-step : goal.invariant-loop-step
invariant-loop-step g l = record {
  going : AreGoing l.plane l.feeder l.ports;
  looks : l.gauge.board ≡ board_of l.plane;
  ports : length l.ports ≡ length l.initial.ports;
}
