use Rattle.std.proofs.Common.{[], None}
use Rattle.queue_core.proofs.Links.{whole}
use Rattle.queue_core.proofs.MapChanges.{empty_linked}
use Rattle.queue_core.proofs.many_waiting.ManyWaiting.new.Goals as goal

pub invariant_of-result : goal.invariant_of-result
invariant_of-result c =
    whole c.new.result.entries None None []
    (empty_linked c.new.result.entries c.new.ensures.empty)
