use Rattle.total_order.proofs.Ready.{decided}
use Rattle.total_order.proofs.laws.taking_what_is_ready_decides.Goals as goal

pub returns : goal.returns
returns g c place can may persists es = decided place can may persists es
