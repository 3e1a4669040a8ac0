use Rattle.std.proofs.Common.{◌≡◌, drop, false}
use Rattle.solo_schedule.specs.Schedule.{round}
use Rattle.solo_run.specs.RunState.{Goes, IsWith, Keeps, setting_of, world_of}
use Rattle.solo_run.proofs.rounds.round.Given as goal

abbrev pub invariant-loop-place : goal.invariant-loop-place
invariant-loop-place l = record {
  going : Goes l.script l.run;
  made_with : IsWith l.fn.run l.run;
  keeps : Keeps (world_of l.fn.run) (world_of l.run);
  on : round (setting_of l.fn.run) l.script l.place (drop l.place l.script.ports)
      (record { world = world_of l.run; found = l.found })
      ≡ round (setting_of l.fn.run) l.script 0 l.script.ports
      (record { world = world_of l.fn.run; found = false });
}
