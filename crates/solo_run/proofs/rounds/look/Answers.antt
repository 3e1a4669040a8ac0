use Rattle.std.proofs.Common.{◌∙◌, sym}
use Rattle.solo_run.specs.RunState.{port_at, setting_of, world_of}
use Rattle.solo_run.proofs.Looks.{looked_none}
use Rattle.solo_run.proofs.rounds.look.Goals as goal

pub returns-then-not-has_notice-clause-looked : goal.returns-then-not-has_notice-clause-looked
returns-then-not-has_notice-clause-looked c before =
    looked_none (setting_of c.args.run.now) c.args.script.now c.args.place
    (port_at c.args.script.now c.args.place) (world_of c.args.run.now) before
    (sym c.has_notice.ensures ∙ c.if-not-has_notice.true)
