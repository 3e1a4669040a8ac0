use Rattle.std.proofs.Common.{◌≡◌, ◌++◌}
use Rattle.queue_replay.specs.Leaving.{first_leaving}
use Rattle.queue_replay.proofs.waiting_list.WaitingList.add_oldest.Given as goal

-- with so many more of those that are still to come, all are added
abbrev pub invariant-loop-card : goal.invariant-loop-card
invariant-loop-card l =
    (goal.iterator-loop-card).can_next l.card-iterator
    × (goal.iterator-loop-card).is_finite l.card-iterator
    × (l.visits.items ++ first_leaving l.more l.card-iterator
    ≡ l.fn.visits.items ++ first_leaving l.count l.self)
