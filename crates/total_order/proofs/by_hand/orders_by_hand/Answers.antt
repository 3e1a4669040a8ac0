use Rattle.total_order.proofs.Examples.{after, before, packets_cross, requests_cross, closes_late}
use Rattle.total_order.proofs.Examples.{asks_no_more}
use Rattle.total_order.proofs.by_hand.orders_by_hand.Goals as goal

pub returns-clause-after : goal.returns-clause-after
returns-clause-after c = after

pub returns-clause-before : goal.returns-clause-before
returns-clause-before c = before

pub returns-clause-packets : goal.returns-clause-packets
returns-clause-packets c = packets_cross

pub returns-clause-requests : goal.returns-clause-requests
returns-clause-requests c = requests_cross

pub returns-clause-closing : goal.returns-clause-closing
returns-clause-closing c = closes_late

pub returns-clause-closed : goal.returns-clause-closed
returns-clause-closed c = asks_no_more
