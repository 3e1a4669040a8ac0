use Rattle.std.proofs.Common.{refl, arith}
use Rattle.queue_core.proofs.WaitingList.{held_empty}
use Rattle.queue_core.proofs.queue.Queue.bind.Goals as goal

pub invariant_of-result : goal.invariant_of-result
invariant_of-result c =
    rw c.new.ensures (rw c.new-2.ensures (held_empty _ refl (omega arith) refl, tt))
