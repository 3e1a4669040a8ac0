use Rattle.journal_audit.proofs.OneFinding.{only}
use Rattle.journal_audit.proofs.laws.a_finding_is_the_only_one.Goals as goal

pub returns : goal.returns
returns c =
    only c.each_front_of_a_legal_history_is_legal.ensures c.a_run_is_all_its_parts.ensures.never_both
