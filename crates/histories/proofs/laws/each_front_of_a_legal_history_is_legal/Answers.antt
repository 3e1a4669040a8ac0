use Rattle.histories.proofs.LegalHistories.{front}
use Rattle.histories.proofs.laws.each_front_of_a_legal_history_is_legal.Goals as goal

pub returns : goal.returns
returns c = front
