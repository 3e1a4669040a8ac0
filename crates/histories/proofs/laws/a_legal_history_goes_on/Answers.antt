use Rattle.histories.proofs.LegalHistories.{state_on, legal_on, all_on}
use Rattle.histories.proofs.laws.a_legal_history_goes_on.Goals as goal

pub returns-clause-state : goal.returns-clause-state
returns-clause-state c = state_on

pub returns-clause-one : goal.returns-clause-one
returns-clause-one c = legal_on

pub returns-clause-all : goal.returns-clause-all
returns-clause-all c = all_on
