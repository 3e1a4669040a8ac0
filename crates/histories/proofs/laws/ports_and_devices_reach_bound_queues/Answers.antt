use Rattle.histories.proofs.AsksByQueue.{closing_asks, down_asks}
use Rattle.histories.proofs.laws.ports_and_devices_reach_bound_queues.Goals as goal

pub returns-clause-ports : goal.returns-clause-ports
returns-clause-ports c = closing_asks

pub returns-clause-devices : goal.returns-clause-devices
returns-clause-devices c = down_asks
