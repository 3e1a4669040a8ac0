use Rattle.run_parts.proofs.LogGrowth.{next_push, standing_push, dids_logged, closed_from}
use Rattle.run_parts.proofs.LogGrowth.{kinds_push}
use Rattle.run_parts.proofs.underway.logs_go_on.Goals as goal

pub returns-clause-next : goal.returns-clause-next
returns-clause-next c = next_push

pub returns-clause-stands : goal.returns-clause-stands
returns-clause-stands c = standing_push

pub returns-clause-logged : goal.returns-clause-logged
returns-clause-logged c = dids_logged

pub returns-clause-closed : goal.returns-clause-closed
returns-clause-closed c = closed_from

pub returns-clause-kinds : goal.returns-clause-kinds
returns-clause-kinds c = λ workers script place port queue.
    kinds_push workers script place port queue
