use Rattle.queue_replay.specs.Underway.{IsUnderway, WithFound}
use Rattle.journal_audit.proofs.EntryWalk.{AreWatching}
use Rattle.journal_audit.proofs.first_illegal.first_in.Given as goal

abbrev pub invariant-loop-entry : goal.invariant-loop-entry
invariant-loop-entry l =
    IsUnderway (WithFound l.found (AreWatching l.queues l.first)) l.entries l.entry-iterator
