use Rattle.histories.proofs.SweepResult.{closed_one, closed_none}
use Rattle.histories.proofs.laws.a_closed_port_has_no_queues.Goals as goal

pub returns-clause-entries : goal.returns-clause-entries
returns-clause-entries c = closed_one

pub returns-clause-none : goal.returns-clause-none
returns-clause-none c = closed_none
