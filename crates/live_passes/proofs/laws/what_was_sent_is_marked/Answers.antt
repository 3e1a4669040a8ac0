use Rattle.live_passes.proofs.NoticeCounts.{sent_agrees}
use Rattle.live_passes.proofs.laws.what_was_sent_is_marked.Goals as goal

pub returns : goal.returns
returns c = λ port v placed. sent_agrees port v placed
