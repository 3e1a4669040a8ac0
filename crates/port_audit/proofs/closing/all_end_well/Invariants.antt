use Rattle.queue_replay.specs.NumberWalk.{IsWalked}
use Rattle.port_audit.proofs.ClosedPorts.{EndsWellIn}
use Rattle.port_audit.proofs.closing.all_end_well.Given as goal

abbrev pub invariant-loop-queue : goal.invariant-loop-queue
invariant-loop-queue l =
    IsWalked (λ queue. EndsWellIn l.ports l.closed) l.queues.entries l.queue-iterator
