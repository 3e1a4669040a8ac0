use Rattle.journal_audit.proofs.OneFinding.{nothing}
use Rattle.journal_audit.proofs.laws.a_run_has_no_finding.Goals as goal

pub returns : goal.returns
returns c = nothing c.a_run_is_all_its_parts.ensures.never_both
