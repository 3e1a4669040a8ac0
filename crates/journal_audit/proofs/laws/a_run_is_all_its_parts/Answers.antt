use Rattle.journal_audit.proofs.PartsOfRun.{each_part, all_parts, never_both}
use Rattle.journal_audit.proofs.laws.a_run_is_all_its_parts.Goals as goal

pub returns-clause-each : goal.returns-clause-each
returns-clause-each c = each_part

pub returns-clause-all : goal.returns-clause-all
returns-clause-all c = all_parts

pub returns-clause-never_both : goal.returns-clause-never_both
returns-clause-never_both c = never_both
