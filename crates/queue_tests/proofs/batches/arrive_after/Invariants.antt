use Rattle.std.proofs.Common.{◌≡◌, None}
use Rattle.queue_tests.proofs.batches.arrive_after.Given as goal

abbrev pub invariant-loop-number : goal.invariant-loop-number
invariant-loop-number l = l.queue.offer ≡ None
