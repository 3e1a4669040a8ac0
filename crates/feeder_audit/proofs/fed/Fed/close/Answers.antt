use Rattle.std.proofs.Common.{ap, ◌∙◌}
use Rattle.std.specs.Prelude.{not}
use Rattle.feeder_audit.proofs.HistoryWalk.{closes_absent, closes_bound}
use Rattle.feeder_audit.proofs.fed.Fed.close.Goals as goal

pub returns-then-is_none-clause-closes : goal.returns-then-is_none-clause-closes
returns-then-is_none-clause-closes c =
    closes_absent c.args.downs.now c.args.self.now c.pass.new.self c.args.port
    (c.is_none.ensures ∙ ap not c.if-is_none.true) c.pass.ensures

pub returns-else-is_none-clause-closes : goal.returns-else-is_none-clause-closes
returns-else-is_none-clause-closes c =
    closes_bound c.args.downs.now c.args.self.now c.args.port
    (c.is_none.ensures ∙ ap not c.if-is_none.false) c.requires
