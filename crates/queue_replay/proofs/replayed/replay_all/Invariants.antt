use Rattle.queue_replay.specs.Replays.{IsReplayOf}
use Rattle.queue_replay.specs.Underway.{IsUnderway}
use Rattle.queue_replay.proofs.replayed.replay_all.Given as goal

abbrev pub invariant-loop-entry : goal.invariant-loop-entry
invariant-loop-entry l =
    IsUnderway (λ before rest. IsReplayOf before l.replayed) l.entries l.entry-iterator
