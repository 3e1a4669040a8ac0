use Rattle.queue_core.proofs.Tables.{stay_apart}
use Rattle.queue_core.proofs.laws.ids_stay_apart.Goals as goal

pub returns : goal.returns
returns c = stay_apart
