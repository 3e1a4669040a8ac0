use Rattle.queue_replay.specs.Underway.{IsUnderway, WithFound}
use Rattle.port_audit.proofs.Visits.{Taking}
use Rattle.port_audit.proofs.notices.are_taken.Given as goal

abbrev pub invariant-loop-entry : goal.invariant-loop-entry
invariant-loop-entry l =
    IsUnderway (WithFound l.found (Taking l.ports l.fn.rows l.rows)) l.entries l.entry-iterator
