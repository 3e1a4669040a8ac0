use Rattle.shared_feeding.proofs.AllFeeders.{all_fed}
use Rattle.shared_feeding.proofs.FeederJoin.{first_one, one_more}
use Rattle.shared_feeding.proofs.joining.joined_feeders_fed_the_place.Goals as goal

pub returns : goal.returns
returns c = record {
  one = λ feeders time fallen front xs is. first_one feeders time fallen front xs is;
  more = λ feeders count time fallen front xs ys zs is other joined. one_more feeders count time
      fallen front xs ys zs is other joined;
  all = λ feeders frames script fallen front xs feeding is lines. all_fed feeders frames script
      fallen front xs feeding is lines;
}
