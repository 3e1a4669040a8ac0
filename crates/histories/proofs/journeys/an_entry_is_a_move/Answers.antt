use Rattle.histories.proofs.MoveSoundness.{moves_on}
use Rattle.histories.proofs.journeys.an_entry_is_a_move.Goals as goal

pub returns : goal.returns
returns c = moves_on
