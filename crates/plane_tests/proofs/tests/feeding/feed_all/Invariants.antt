use Rattle.std.proofs.Common.{◌≡◌}
use Rattle.place_turns.specs.Trails.{parts_of}
use Rattle.plane.specs.Passes.{IsFeederOf}
use Rattle.plane_tests.proofs.tests.feeding.feed_all.Given as goal

abbrev pub invariant-loop-step : goal.invariant-loop-step
invariant-loop-step g l = record {
  pass : IsFeederOf l.plane l.pass;
  parts : parts_of l.pass.trail.known ≡ parts_of l.initial.pass.trail.known;
}
