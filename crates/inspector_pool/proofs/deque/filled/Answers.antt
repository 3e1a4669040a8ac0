use Rattle.std.proofs.Common.{rules}
use Rattle.inspector_pool.proofs.Steps.{begins, puts}
use Rattle.inspector_pool.proofs.deque.filled.Goals as goal

pub fifo_as-requires : goal.fifo_as-requires
fifo_as-requires c = begins

pub push_as-requires-clause-pushes : goal.push_as-requires-clause-pushes
push_as-requires-clause-pushes c = puts _ _ _ (search rules) (search rules)
