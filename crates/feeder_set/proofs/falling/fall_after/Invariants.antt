use Rattle.std.proofs.Common.{◌≡◌}
use Rattle.run_parts.specs.Feeder.{downs_after}
use Rattle.place_turns.specs.Trails.{parts_of}
use Rattle.plane.specs.Passes.{FeederView, IsFeederOf}
use Rattle.feeder_set.specs.Steps.{AllFall}
use Rattle.feeder_set.proofs.falling.fall_after.Given as goal

abbrev pub invariant-loop-down : goal.invariant-loop-down
invariant-loop-down g l = record {
  pass : IsFeederOf l.stage.plane.now l.pass;
  parts : parts_of l.pass.trail.known ≡ parts_of l.initial.pass.trail.known;
  none : l.pass.fed ≡ l.initial.pass.fed;
  on : (new : FeederView) → AllFall l.stage.plane.now l.down-iterator l.pass new →
      AllFall l.stage.plane.now (downs_after l.stage.script.now l.number) l.initial.pass new;
}
