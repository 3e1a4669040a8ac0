use Rattle.std.proofs.Common.{◌≡◌}
use Rattle.plane.specs.Planes.{board_of}
use Rattle.live_work.proofs.feeding.hold_back.Given as goal

abbrev pub invariant-loop-glance : goal.invariant-loop-glance
invariant-loop-glance g l = record {
  looks : l.gauge.board ≡ board_of l.plane;
}
