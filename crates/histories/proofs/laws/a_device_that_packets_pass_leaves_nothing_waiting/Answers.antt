use Rattle.histories.proofs.SweepResult.{down_one, down_none}
use Rattle.histories.proofs.laws.a_device_that_packets_pass_leaves_nothing_waiting.Goals as goal

pub returns-clause-entries : goal.returns-clause-entries
returns-clause-entries c = down_one

pub returns-clause-none : goal.returns-clause-none
returns-clause-none c = down_none
