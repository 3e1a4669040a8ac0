use Rattle.queue_core.proofs.Links.{viewed, viewed_back}
use Rattle.queue_core.proofs.laws.neighbours_lead_both_ways.Goals as goal

pub returns-clause-younger : goal.returns-clause-younger
returns-clause-younger c = viewed

pub returns-clause-older : goal.returns-clause-older
returns-clause-older c = viewed_back
