use Rattle.std.proofs.Common.{ap, arith}
use Rattle.inspector_pool.proofs.Steps.{forks}
use Rattle.inspector_pool.proofs.pool.hire.Goals as goal

pub another-requires : goal.another-requires
another-requires c = forks _ _ (omega (arith, ap (λ v. v.parts) c.loop-i.invariant.2))
