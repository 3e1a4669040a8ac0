use Rattle.queue_replay.specs.NumberWalk.{IsWalked}
use Rattle.feeder_audit.specs.Queues.{IsWholeIn, state_in}
use Rattle.feeder_audit.proofs.feeding.are_whole.Given as goal

abbrev pub invariant-loop-queue : goal.invariant-loop-queue
invariant-loop-queue l =
    IsWalked (λ queue. IsWholeIn l.downs (state_in l.queues queue)) l.fn.feds.entries
    l.queue-iterator
