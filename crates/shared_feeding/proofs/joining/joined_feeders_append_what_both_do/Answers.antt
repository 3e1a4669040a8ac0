use Rattle.live_runs.specs.Owners.{IsFeeders}
use Rattle.shared_feeding.proofs.FeederJoin.{joined_grows}
use Rattle.shared_feeding.proofs.joining.joined_feeders_append_what_both_do.Goals as goal

pub returns : goal.returns
returns c = λ front xs ys zs one two is. joined_grows IsFeeders front xs ys zs one two is
