use Rattle.queue_replay.specs.Underway.{IsUnderway}
use Rattle.port_audit.proofs.ToldRequests.{Pleading}
use Rattle.port_audit.proofs.requests.are_asked.Given as goal

abbrev pub invariant-loop-entry : goal.invariant-loop-entry
invariant-loop-entry l = IsUnderway (Pleading l.fn.rows l.rows) l.entries l.entry-iterator
