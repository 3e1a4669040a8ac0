use Rattle.queue_core.proofs.Tables.{conserving}
use Rattle.queue_core.proofs.laws.each_packet_stays_or_leaves.Goals as goal

pub returns : goal.returns
returns c = conserving
