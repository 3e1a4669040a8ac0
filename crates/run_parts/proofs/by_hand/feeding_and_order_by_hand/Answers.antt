use Rattle.run_parts.proofs.FeederExamples.{whole_fed, late_not_fed, backward_not_fed}
use Rattle.run_parts.proofs.FeederExamples.{whole_ordered}
use Rattle.run_parts.proofs.FeederExamples.{late_opening, early_end, wrong_closings}
use Rattle.std.specs.Prelude.{refl}
use Rattle.run_parts.proofs.FeederExamples.{again_fed, early_closing}
use Rattle.run_parts.proofs.FeederExamples.{absent_fed, missed_not_fed, lineless_not_fed}
use Rattle.run_parts.proofs.by_hand.feeding_and_order_by_hand.Goals as goal

pub returns-clause-fed : goal.returns-clause-fed
returns-clause-fed c = whole_fed

pub returns-clause-absent : goal.returns-clause-absent
returns-clause-absent c = absent_fed

pub returns-clause-lineless : goal.returns-clause-lineless
returns-clause-lineless c = lineless_not_fed

pub returns-clause-missed : goal.returns-clause-missed
returns-clause-missed c = missed_not_fed

pub returns-clause-late : goal.returns-clause-late
returns-clause-late c = late_not_fed

pub returns-clause-backward : goal.returns-clause-backward
returns-clause-backward c = backward_not_fed

pub returns-clause-ordered : goal.returns-clause-ordered
returns-clause-ordered c = whole_ordered

pub returns-clause-opening : goal.returns-clause-opening
returns-clause-opening c = late_opening

pub returns-clause-ending : goal.returns-clause-ending
returns-clause-ending c = early_end

pub returns-clause-closings : goal.returns-clause-closings
returns-clause-closings c = wrong_closings

pub returns-clause-again : goal.returns-clause-again
returns-clause-again c = again_fed

pub returns-clause-in_effect : goal.returns-clause-in_effect
returns-clause-in_effect c = refl

pub returns-clause-closing : goal.returns-clause-closing
returns-clause-closing c = early_closing

pub returns-clause-kinds : goal.returns-clause-kinds
returns-clause-kinds c = (refl, refl)
