use Rattle.queue_replay.specs.Underway.{IsUnderway}
use Rattle.port_audit.proofs.ClosedPorts.{AreShutting}
use Rattle.port_audit.proofs.closing.are_shut.Given as goal

abbrev pub invariant-loop-entry : goal.invariant-loop-entry
invariant-loop-entry l =
    IsUnderway (λ before rest. AreShutting l.ports l.closed l.shut before) l.entries
    l.entry-iterator
