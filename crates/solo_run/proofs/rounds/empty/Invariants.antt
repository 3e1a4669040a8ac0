use Rattle.std.proofs.Common.{◌≡◌, ◌-◌}
use Rattle.solo_schedule.specs.Schedule.{emptied_in}
use Rattle.solo_run.specs.RunState.{Goes, IsWith, Keeps, setting_of, world_of}
use Rattle.solo_run.proofs.rounds.empty.Given as goal

abbrev pub invariant-loop-round : goal.invariant-loop-round
invariant-loop-round l = record {
  going : Goes l.script l.run;
  made_with : IsWith l.fn.run l.run;
  keeps : Keeps (world_of l.fn.run) (world_of l.run);
  on : emptied_in (l.rounds - l._round) (setting_of l.fn.run) l.script (world_of l.run)
      ≡ emptied_in l.rounds (setting_of l.fn.run) l.script (world_of l.fn.run);
}
