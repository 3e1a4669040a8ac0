use Rattle.total_order.proofs.OnePlace.{timed_of_order}
use Rattle.total_order.proofs.laws.one_order_is_a_timed_list.Goals as goal

pub returns : goal.returns
returns c = timed_of_order c.a_queue_has_a_place.ensures
