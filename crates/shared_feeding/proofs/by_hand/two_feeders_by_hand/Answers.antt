use Rattle.std.proofs.Common.{arith, refl}
use Rattle.live_runs.specs.ByHand.{script}
use Rattle.shared_feeding.specs.ByHand.{fallen, front, seen_by_0, seen_by_1, seen_by_both}
use Rattle.shared_feeding.proofs.ExampleFeeders.{by_both, by_one, by_zero, front_fed, lines_so}
use Rattle.shared_feeding.proofs.ExampleFeeders.{no_stranger, not_both, not_fed_by_one}
use Rattle.shared_feeding.proofs.by_hand.two_feeders_by_hand.Goals as goal

pub returns : goal.returns
returns c =
    let known = c.joined_feeders_fed_the_place.ensures in
    record {
      front = front_fed;
      zero = by_zero;
      one = by_one;
      joined = by_both;
      lines = lines_so;
      fed = (known.all 2 2 script fallen front seen_by_both front_fed
          (known.more 2 1 5 fallen front seen_by_0 seen_by_1 seen_by_both
          (known.one 2 3 fallen front seen_by_0 by_zero) by_one by_both) lines_so).fed
          ((tt, refl), tt) 3 (omega arith);
      not_by_one = not_fed_by_one;
      stranger = no_stranger;
      never_both = not_both;
    }
