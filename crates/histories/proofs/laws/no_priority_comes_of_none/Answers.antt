use Rattle.histories.proofs.NoPriority.{leave_none}
use Rattle.histories.proofs.laws.no_priority_comes_of_none.Goals as goal

pub returns : goal.returns
returns c = leave_none
