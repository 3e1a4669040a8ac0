use Rattle.turn_lock.proofs.Trees.{meets_apart, apart_meets, beside_the_whole}
use Rattle.turn_lock.proofs.laws.parts_meet_where_they_share_a_way.Goals as goal

pub returns : goal.returns
returns c = record { meet = λ p q. (meets_apart p q, apart_meets p q); whole = beside_the_whole }
