use Rattle.queue_core.proofs.Outcomes.{leaves_so}
use Rattle.queue_core.proofs.laws.an_arrival_leaves_as_its_outcome_says.Goals as goal

pub returns : goal.returns
returns c q card bypass room o l = (leaves_so q card bypass room).so o l
