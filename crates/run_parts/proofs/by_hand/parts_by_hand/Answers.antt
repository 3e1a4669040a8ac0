use Rattle.run_parts.proofs.WrittenExamples.{no_log_missing, no_log_holds, wrong_answered}
use Rattle.run_parts.proofs.WrittenExamples.{wrong_answer_logged}
use Rattle.run_parts.proofs.by_hand.parts_by_hand.Goals as goal

pub returns-clause-missing : goal.returns-clause-missing
returns-clause-missing c = no_log_missing

pub returns-clause-no_log : goal.returns-clause-no_log
returns-clause-no_log c = no_log_holds

pub returns-clause-answered : goal.returns-clause-answered
returns-clause-answered c = wrong_answered

pub returns-clause-logged : goal.returns-clause-logged
returns-clause-logged c = wrong_answer_logged
