use Rattle.queue_core.proofs.FreeIds.{first_free}
use Rattle.queue_core.proofs.laws.first_free_id.Goals as goal

pub returns : goal.returns
returns c = first_free
