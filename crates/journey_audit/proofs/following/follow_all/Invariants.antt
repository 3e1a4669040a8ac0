use Rattle.queue_replay.specs.Underway.{IsUnderway}
use Rattle.journey_audit.proofs.Entries.{AreFollowed}
use Rattle.journey_audit.proofs.following.follow_all.Given as goal

abbrev pub invariant-loop-entry : goal.invariant-loop-entry
invariant-loop-entry l =
    IsUnderway (AreFollowed l.tables l.key l.replayed l.is_legal l.fn.tallies l.tallies) l.entries
    l.entry-iterator
