use Rattle.std.specs.Prelude.{All, length}
use Rattle.script_lines.specs.Limits.{IsAsk}
use Rattle.solo_run.specs.RunState.{Goes, IsWith, port_at, setting_of, world_of}
use Rattle.solo_run.proofs.AskSteps.{IsDoing}
use Rattle.solo_run.proofs.sending.do_all.Given as goal

abbrev pub invariant-loop-ask : goal.invariant-loop-ask
invariant-loop-ask g l = record {
  going : Goes l.script l.run;
  made_with : IsWith l.fn.run l.run;
  fit : All IsAsk l.left;
  doing : IsDoing (g.B.Between.then l.between (setting_of l.fn.run) l.script)
      (setting_of l.fn.run) (port_at l.script l.place) l.fn.asks (world_of l.fn.run)
      l.left (world_of l.run);
}

abbrev pub decreases-loop-ask : goal.decreases-loop-ask
decreases-loop-ask g l = length l.left
