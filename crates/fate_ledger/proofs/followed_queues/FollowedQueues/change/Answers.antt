use Rattle.std.proofs.Common.{refl}
use Rattle.fate_ledger.proofs.Queues.{turned_to}
use Rattle.fate_ledger.proofs.followed_queues.FollowedQueues.change.Goals as goal

pub returns : goal.returns
returns c =
    turned_to c.args.self.now _ c.taken-next.new.queues c.args.queue c.replace-last.result
    c.taken-next.result c.requires.other c.replace-last.ensures.value
    c.replace-last.ensures.after c.taken-next.ensures.queue c.taken-next.ensures.others
    c.in_ok-insert.ensures.updates.0 refl
