use Rattle.std.proofs.Math.Nat.{mod-lt}
use Rattle.histories.proofs.laws.a_queue_has_a_place.Goals as goal

pub returns : goal.returns
returns c = λ queue places some. mod-lt queue some
