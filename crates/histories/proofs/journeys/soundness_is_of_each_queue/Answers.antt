use Rattle.histories.proofs.MoveSums.{grouped_sound}
use Rattle.histories.proofs.journeys.soundness_is_of_each_queue.Goals as goal

pub returns : goal.returns
returns c = grouped_sound
