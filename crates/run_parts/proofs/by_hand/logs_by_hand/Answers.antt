use Rattle.run_parts.proofs.LogExamples.{opening_logged, ends_logged, wrong_answer, wrong_call}
use Rattle.run_parts.proofs.LogExamples.{wrong_order, notice_between, not_the_first}
use Rattle.run_parts.proofs.by_hand.logs_by_hand.Goals as goal

pub returns-clause-opened : goal.returns-clause-opened
returns-clause-opened c = opening_logged

pub returns-clause-ended : goal.returns-clause-ended
returns-clause-ended c = ends_logged

pub returns-clause-answer : goal.returns-clause-answer
returns-clause-answer c = wrong_answer

pub returns-clause-call : goal.returns-clause-call
returns-clause-call c = wrong_call

pub returns-clause-order : goal.returns-clause-order
returns-clause-order c = wrong_order

pub returns-clause-between : goal.returns-clause-between
returns-clause-between c = notice_between

pub returns-clause-count : goal.returns-clause-count
returns-clause-count c = not_the_first
