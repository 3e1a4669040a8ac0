use Rattle.total_order.proofs.Persistence.{order_of, clocks_of}
use Rattle.total_order.proofs.laws.total_order_where_clocks_are.Goals as goal

pub returns-clause-order : goal.returns-clause-order
returns-clause-order c = order_of

pub returns-clause-clocks : goal.returns-clause-clocks
returns-clause-clocks c = clocks_of
