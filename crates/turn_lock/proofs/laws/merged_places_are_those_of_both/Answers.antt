use Rattle.turn_lock.proofs.Lists.{in_merged, merged_in, merged_ascends, merged_none}
use Rattle.turn_lock.proofs.laws.merged_places_are_those_of_both.Goals as goal

pub returns : goal.returns
returns c =
    record {
      places = λ k xs ys. (in_merged k xs ys, merged_in k xs ys);
      ascend = merged_ascends;
      none = λ low high xs a. merged_none xs high low a;
    }
