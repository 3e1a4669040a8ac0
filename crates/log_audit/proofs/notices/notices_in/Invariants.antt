use Rattle.queue_replay.specs.Underway.{IsUnderway, WithFound}
use Rattle.log_audit.proofs.NoticeStore.{AreKeptSoFar}
use Rattle.log_audit.proofs.notices.notices_in.Given as goal

abbrev pub invariant-loop-entry : goal.invariant-loop-entry
invariant-loop-entry l =
    IsUnderway (WithFound l.found (AreKeptSoFar l.entries l.notices)) l.entries l.entry-iterator
