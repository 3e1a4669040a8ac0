use Rattle.histories.proofs.MoveSoundness.{nothing_yet, enters, moves_one, loses}
use Rattle.histories.proofs.journeys.soundness_is_kept_move_by_move.Goals as goal

pub returns-clause-nothing : goal.returns-clause-nothing
returns-clause-nothing c = nothing_yet

pub returns-clause-enters : goal.returns-clause-enters
returns-clause-enters c = enters

pub returns-clause-comes : goal.returns-clause-comes
returns-clause-comes c = moves_one

pub returns-clause-lost : goal.returns-clause-lost
returns-clause-lost c = loses
