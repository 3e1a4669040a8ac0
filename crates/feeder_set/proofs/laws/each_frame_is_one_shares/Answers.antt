use Rattle.feeder_set.proofs.ShareFrames.{in_one, in_no_other, next_is_own, before_first}
use Rattle.feeder_set.proofs.ShareFrames.{between_two}
use Rattle.feeder_set.proofs.laws.each_frame_is_one_shares.Goals as goal

pub returns : goal.returns
returns c = record {
  one = in_one;
  alone = in_no_other;
  own = next_is_own;
  first = before_first;
  between = between_two;
}
