use Rattle.std.proofs.Common.{◌≡◌}
use Rattle.plane.proofs.PlaneEnd.{NoneBefore}
use Rattle.plane.proofs.finish.take_dids.Given as goal

abbrev pub invariant-loop-i : goal.invariant-loop-i
invariant-loop-i l = record {
  same : l.logs.items ≡ l.initial.logs.items;
  none : NoneBefore l.port l.i l.logs.items;
}
