use Rattle.std.proofs.Common.{◌≡◌}
use Rattle.run_parts.specs.Feeder.{downs_after}
use Rattle.solo_schedule.specs.Schedule.{all_down}
use Rattle.solo_run.specs.RunState.{Goes, IsWith, Keeps, world_of}
use Rattle.solo_run.proofs.parts.take_down.Given as goal

abbrev pub invariant-loop-down : goal.invariant-loop-down
invariant-loop-down l = record {
  going : Goes l.script l.run;
  made_with : IsWith l.fn.run l.run;
  keeps : Keeps (world_of l.fn.run) (world_of l.run);
  on : all_down l.down-iterator (world_of l.run)
      ≡ all_down (downs_after l.script l.number) (world_of l.fn.run);
}
