use Rattle.std.proofs.Common.{◌≡◌, ◌≤◌, ◌++◌, ◌+◌, ◌-◌, take, drop, map, None}
use Rattle.std.specs.VecDeque.{deque_len, deque_capacity}
use Rattle.packet_entry.specs.Card.{edited}
use Rattle.queue_core.proofs.queue.verdicts.hand_out.Given as goal

-- so many have been moved
abbrev pub invariant-loop : goal.invariant-loop
invariant-loop l =
    (l.waiting ≡ drop l.counter l.fn.waiting)
    × (l.out.items ≡ l.fn.out.items
    ++ map (λ w. (edited w.1 l.mark None l.priority, l.decision))
    (take l.counter l.fn.waiting))
    × (deque_len l.out + (l.count - l.counter) ≤ deque_capacity l.out)
