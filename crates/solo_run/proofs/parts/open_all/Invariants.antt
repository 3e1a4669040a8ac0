use Rattle.std.proofs.Common.{◌≡◌, drop}
use Rattle.solo_schedule.specs.Schedule.{opened_all}
use Rattle.solo_run.specs.RunState.{Goes, IsWith, Keeps, setting_of, world_of}
use Rattle.solo_run.proofs.parts.open_all.Given as goal

abbrev pub invariant-loop-place : goal.invariant-loop-place
invariant-loop-place l = record {
  going : Goes l.script l.run;
  made_with : IsWith l.fn.run l.run;
  keeps : Keeps (world_of l.fn.run) (world_of l.run);
  on : opened_all (setting_of l.fn.run) l.script l.place (drop l.place l.script.ports)
      (world_of l.run)
      ≡ opened_all (setting_of l.fn.run) l.script 0 l.script.ports (world_of l.fn.run);
}
