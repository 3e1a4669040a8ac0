use Rattle.order_audit.proofs.Stuck.{decided}
use Rattle.order_audit.proofs.order.has_total_order.Goals as goal

pub returns-then-is_stuck : goal.returns-then-is_stuck
returns-then-is_stuck c =
    decided c.total_orders_are_orders_of_steps.ensures.persists c.args.histories.now
    c.go_on.new.walk c.is_whole.result c.in_ok-go_on.ensures
    (c.is_stuck.ensures c.if-is_stuck.true) c.is_whole.ensures
