use Rattle.std.proofs.Common.{refl}
use Rattle.journals.specs.Format as text
use Rattle.journals.proofs.Texts.{told_on}
use Rattle.journals.proofs.writing.push_logs.Goals as goal

pub loop-log-preserved : goal.loop-log-preserved
loop-log-preserved c =
    told_on (text.logs c.args.version) c.in-Some.log.now _ _
    (text.log c.args.version c.in-Some.log.now) _ _ _
    c.in-Some.ensures.steps refl c.in_ok-push_log.ensures c.loop-log.invariant
