use Rattle.turn_lock.proofs.Trees.{same_ways, normal_union, normal_kept, normal_cut}
use Rattle.turn_lock.proofs.laws.a_part_is_known_by_its_ways.Goals as goal

pub returns : goal.returns
returns c =
    record {
      known = same_ways;
      union = normal_union;
      pieces = λ p n h. (normal_kept p n h, normal_cut p n h);
    }
