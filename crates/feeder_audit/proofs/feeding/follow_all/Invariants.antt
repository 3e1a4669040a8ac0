use Rattle.queue_replay.specs.Underway.{IsUnderway, WithFound}
use Rattle.feeder_audit.proofs.Queues.{AreGoing}
use Rattle.feeder_audit.proofs.feeding.follow_all.Given as goal

abbrev pub invariant-loop-entry : goal.invariant-loop-entry
invariant-loop-entry l =
    IsUnderway (WithFound l.found (AreGoing l.downs l.entries l.feds)) l.entries l.entry-iterator
