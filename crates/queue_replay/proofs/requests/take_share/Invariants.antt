use Rattle.queue_replay.proofs.RequestResults.{IsShared}
use Rattle.queue_replay.proofs.requests.take_share.Given as goal

abbrev pub invariant-loop-taken : goal.invariant-loop-taken
invariant-loop-taken l = IsShared l.fn.waiting l.waiting l.maximum l.taken
