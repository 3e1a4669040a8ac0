use Rattle.std.proofs.Common.{◌≡◌, drop}
use Rattle.solo_schedule.specs.Schedule.{ended_all}
use Rattle.solo_run.specs.RunState.{AreOpen, Goes, IsWith, setting_of, world_of}
use Rattle.solo_run.proofs.parts.end_all.Given as goal

abbrev pub invariant-loop-place : goal.invariant-loop-place
invariant-loop-place l = record {
  going : Goes l.script l.run;
  made_with : IsWith l.fn.run l.run;
  fed : (world_of l.run).fed ≡ (world_of l.fn.run).fed;
  are_open : AreOpen l.script (world_of l.run) l.place;
  on : ended_all l.rounds (setting_of l.fn.run) l.script l.place (drop l.place l.script.ports)
      (world_of l.run)
      ≡ ended_all l.rounds (setting_of l.fn.run) l.script 0 l.script.ports (world_of l.fn.run);
}
