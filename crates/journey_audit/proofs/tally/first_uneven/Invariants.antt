use Rattle.queue_replay.specs.NumberWalk.{IsWalked}
use Rattle.journey_audit.specs.Tallying.{IsEvenIn}
use Rattle.journey_audit.proofs.tally.first_uneven.Given as goal

abbrev pub invariant-loop-number : goal.invariant-loop-number
invariant-loop-number l = IsWalked (λ number. IsEvenIn) l.fn.tallies.entries l.number-iterator
