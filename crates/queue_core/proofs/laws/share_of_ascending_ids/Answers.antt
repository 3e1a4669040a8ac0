use Rattle.queue_core.proofs.Shares.{ascending}
use Rattle.queue_core.proofs.laws.share_of_ascending_ids.Goals as goal

pub returns : goal.returns
returns c = ascending
