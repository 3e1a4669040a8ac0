use Rattle.queue_replay.specs.Underway.{IsUnderway, WithFound}
use Rattle.port_audit.proofs.HeardNotices.{NoneSoFar}
use Rattle.port_audit.proofs.room.all_had_room.Given as goal

abbrev pub invariant-loop-entry : goal.invariant-loop-entry
invariant-loop-entry l =
    IsUnderway (WithFound l.found (NoneSoFar l.few)) l.entries l.entry-iterator
