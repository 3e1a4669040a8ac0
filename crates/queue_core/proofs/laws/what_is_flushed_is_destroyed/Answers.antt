use Rattle.queue_core.proofs.Tables.{config_destroys, port_destroys, device_destroys}
use Rattle.queue_core.proofs.laws.what_is_flushed_is_destroyed.Goals as goal

pub returns-clause-config : goal.returns-clause-config
returns-clause-config c = config_destroys

pub returns-clause-port : goal.returns-clause-port
returns-clause-port c = port_destroys

pub returns-clause-device : goal.returns-clause-device
returns-clause-device c = device_destroys
