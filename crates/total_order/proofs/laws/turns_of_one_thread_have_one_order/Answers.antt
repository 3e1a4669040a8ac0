use Rattle.total_order.proofs.OneThread.{one_thread}
use Rattle.total_order.proofs.laws.turns_of_one_thread_have_one_order.Goals as goal

pub returns : goal.returns
returns c = one_thread
