use Rattle.port_audit.specs.Dealing.{AreKept}
use Rattle.port_audit.proofs.OrderWalk.{IsSequenced}
use Rattle.port_audit.proofs.order.are_in_order.Given as goal

abbrev pub invariant-loop-entry : goal.invariant-loop-entry
invariant-loop-entry l =
    AreKept l.fn.rows → IsSequenced l.ports l.fn.rows l.entries l.entry-iterator l.ranks l.rows
