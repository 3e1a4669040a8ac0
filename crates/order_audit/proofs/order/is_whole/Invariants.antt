use Rattle.total_order.specs.Orders.{EachIs}
use Rattle.std.specs.Prelude.{◌↔◌}
use Rattle.order_audit.specs.Walking.{IsLast}
use Rattle.order_audit.proofs.order.is_whole.Given as goal

-- it holds of all just if it holds of those that are still to come
abbrev pub invariant-loop-entry : goal.invariant-loop-entry
invariant-loop-entry l =
    EachIs (IsLast l.walk) l.entry-iterator
    ↔ EachIs (IsLast l.walk) l.entries
