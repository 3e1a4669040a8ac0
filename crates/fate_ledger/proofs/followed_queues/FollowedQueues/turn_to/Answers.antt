use Rattle.fate_ledger.proofs.Queues.{stays}
use Rattle.fate_ledger.proofs.followed_queues.FollowedQueues.turn_to.Goals as goal

pub returns-then-self-queue : goal.returns-then-self-queue
returns-then-self-queue c = stays c.args.self.now c.args.queue c.if-self-queue.true
