use Rattle.std.proofs.Common.{◌≡◌}
use Rattle.place_rows.specs.Rows.{TurnedUpTo}
use Rattle.place_turns.specs.Trails.{parts_of}
use Rattle.plane.specs.Passes.{IsFeederOf}
use Rattle.feeder_set.specs.Steps.{FallsAt}
use Rattle.feeder_set.proofs.falling.fall.Given as goal

abbrev pub invariant-loop-place : goal.invariant-loop-place
invariant-loop-place g l = record {
  pass : IsFeederOf l.plane l.pass;
  parts : parts_of l.pass.trail.known ≡ parts_of l.initial.pass.trail.known;
  turned : TurnedUpTo l.place l.initial.pass.trail.known l.pass.trail.known (FallsAt l.device);
  fed : l.pass.fed ≡ l.initial.pass.fed;
  lost : l.pass.trail.lost ≡ l.initial.pass.trail.lost;
}
