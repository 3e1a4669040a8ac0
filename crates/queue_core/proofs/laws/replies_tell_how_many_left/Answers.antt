use Rattle.queue_core.proofs.Tables.{counting}
use Rattle.queue_core.proofs.laws.replies_tell_how_many_left.Goals as goal

pub returns : goal.returns
returns c = counting
