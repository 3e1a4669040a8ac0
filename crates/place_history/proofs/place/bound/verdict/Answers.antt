use Rattle.std.proofs.Common.{◌≡◌, Some, rules}
use Rattle.place_history.specs.Changes.{queue_at}
use Rattle.place_history.proofs.place.bound.verdict.Goals as goal

pub returns-clause-refused : goal.returns-clause-refused
returns-clause-refused c =
    let was : queue_at c.args.queues.now c.args.number ≡ Some c.in-Some.queue.now = search rules in
    rw was c.verdict_at.ensures.refused
