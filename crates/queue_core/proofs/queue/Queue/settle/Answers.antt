use Rattle.std.proofs.Common.{◌≡◌, ◌<◌, Some, sym, ◌∙◌, arith}
use Rattle.queue_core.specs.Numbers.{id_count}
use Rattle.queue_core.specs.Linked.{IsLast}
use Rattle.queue_core.proofs.WaitingList.{held_taken}
use Rattle.queue_core.proofs.queue.Queue.settle.Goals as goal

pub invariant_of-self : goal.invariant_of-self
invariant_of-self c =
    let offered : c.self.inside.offer ≡ Some c.in-Some.id =
    sym c.take.ensures.value ∙ c.in-Some.is in
    let l : IsLast c.self.inside.waiting c.in-Some.id = rw offered at c.self.invariant.1 in
    let last : c.self.inside.last < id_count = omega arith in
    let is = rw (offered, l.found) at c.self.invariant.0 in
    rw (c.take.ensures.after, l.behind) (held_taken _ c.in-Some.id l.card last is, tt)
