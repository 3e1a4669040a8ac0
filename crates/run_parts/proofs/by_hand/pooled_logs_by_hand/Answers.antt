use Rattle.run_parts.proofs.PoolExamples.{pooled_logged, not_alone, not_the_other_order}
use Rattle.run_parts.proofs.by_hand.pooled_logs_by_hand.Goals as goal

pub returns-clause-pooled : goal.returns-clause-pooled
returns-clause-pooled c = pooled_logged

pub returns-clause-alone : goal.returns-clause-alone
returns-clause-alone c = not_alone

pub returns-clause-order : goal.returns-clause-order
returns-clause-order c = not_the_other_order
