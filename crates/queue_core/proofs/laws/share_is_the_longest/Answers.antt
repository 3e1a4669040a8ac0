use Rattle.queue_core.proofs.Shares.{longest}
use Rattle.queue_core.proofs.laws.share_is_the_longest.Goals as goal

pub returns : goal.returns
returns c = longest
