use Rattle.std.proofs.Common.{refl}
use Rattle.journals.specs.Format as text
use Rattle.journals.proofs.Texts.{told_on}
use Rattle.journals.proofs.writing.push_dids.Goals as goal

pub loop-did-preserved : goal.loop-did-preserved
loop-did-preserved c =
    told_on (text.dids c.args.version) c.in-Some.did.now _ _
    (text.did c.args.version c.in-Some.did.now) _ _ _
    c.in-Some.ensures.steps refl c.in_ok-push_did.ensures.ok c.loop-did.invariant
