use Rattle.total_order.specs.Orders.{EachIs}
use Rattle.order_audit.specs.Walking.{Rests}
use Rattle.order_audit.proofs.order.ports_wait.Given as goal

-- if it holds of those that are still to come, it holds of all
abbrev pub invariant-loop-log : goal.invariant-loop-log
invariant-loop-log l = EachIs (Rests l.histories l.walk) l.log-iterator
    → EachIs (Rests l.histories l.walk) l.histories.logs
