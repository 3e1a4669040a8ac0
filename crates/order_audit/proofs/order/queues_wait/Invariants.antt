use Rattle.total_order.specs.Orders.{EachIs}
use Rattle.order_audit.specs.Walking.{Waits}
use Rattle.order_audit.proofs.order.queues_wait.Given as goal

-- if it holds of those that are still to come, it holds of all
abbrev pub invariant-loop-entry : goal.invariant-loop-entry
invariant-loop-entry l = EachIs (Waits l.histories l.walk) l.entry-iterator
    → EachIs (Waits l.histories l.walk) l.histories.entries
