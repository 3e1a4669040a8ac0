use Rattle.total_order.proofs.Places.{lists_have_order}
use Rattle.total_order.proofs.laws.timed_lists_have_one_order.Goals as goal

pub returns : goal.returns
returns c = lists_have_order c.a_queue_has_a_place.ensures
