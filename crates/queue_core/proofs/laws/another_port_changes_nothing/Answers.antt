use Rattle.queue_core.proofs.Tables.{another_port}
use Rattle.queue_core.proofs.laws.another_port_changes_nothing.Goals as goal

pub returns : goal.returns
returns c = another_port
