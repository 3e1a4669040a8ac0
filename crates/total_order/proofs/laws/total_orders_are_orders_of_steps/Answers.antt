use Rattle.total_order.proofs.Persistence.{persists, order_in, total_in}
use Rattle.total_order.proofs.laws.total_orders_are_orders_of_steps.Goals as goal

pub returns-clause-persists : goal.returns-clause-persists
returns-clause-persists c = persists

pub returns-clause-order : goal.returns-clause-order
returns-clause-order c = order_in

pub returns-clause-total : goal.returns-clause-total
returns-clause-total c = total_in
