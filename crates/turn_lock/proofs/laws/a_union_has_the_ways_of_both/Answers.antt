use Rattle.turn_lock.proofs.Trees.{covers-union}
use Rattle.turn_lock.proofs.laws.a_union_has_the_ways_of_both.Goals as goal

pub returns : goal.returns
returns c = covers-union
