use Rattle.order_audit.specs.Walking.{IsWalk}
use Rattle.order_audit.proofs.order.go_on.Given as goal

abbrev pub invariant-loop : goal.invariant-loop
invariant-loop l = IsWalk l.histories l.walk
