use Rattle.std.proofs.Common.{◌≡◌, ◌++◌, take}
use Rattle.queue_replay.specs.Telling.{each_going}
use Rattle.queue_replay.proofs.waiting_list.WaitingList.first_going.Given as goal

-- with so many more of those that are still to come, all go on
abbrev pub invariant-loop-card : goal.invariant-loop-card
invariant-loop-card l =
    (goal.iterator-loop-card).can_next l.card-iterator
    × (goal.iterator-loop-card).is_finite l.card-iterator
    × (l.leavers.items ++ each_going l.verdict l.mark l.priority (take l.more l.card-iterator)
    ≡ each_going l.verdict l.mark l.priority (take l.count l.self))
