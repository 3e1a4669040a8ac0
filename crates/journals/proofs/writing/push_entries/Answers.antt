use Rattle.std.proofs.Common.{refl}
use Rattle.journals.specs.Format as text
use Rattle.journals.proofs.Texts.{told_on}
use Rattle.journals.proofs.writing.push_entries.Goals as goal

pub loop-entry-preserved : goal.loop-entry-preserved
loop-entry-preserved c =
    told_on (text.entries c.args.version) c.in-Some.entry.now _ _
    (text.entry c.args.version c.in-Some.entry.now) _ _ _
    c.in-Some.ensures.steps refl c.in_ok-push_entry.ensures.ok c.loop-entry.invariant
