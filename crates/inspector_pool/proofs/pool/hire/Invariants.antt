use Rattle.std.proofs.Common.{◌≡◌, ◌-◌, [], length, All}
use Rattle.crossbeam_deque.specs.Handles.{worker_deque, worker_flavor, worker_view}
use Rattle.inspector_pool.specs.Rule.{all_parts, tally}
use Rattle.inspector_pool.specs.Work.{IsReady}
use Rattle.inspector_pool.proofs.pool.hire.Given as goal

abbrev pub invariant-loop-i : goal.invariant-loop-i
invariant-loop-i l =
    (worker_deque l.owner ≡ worker_deque l.fn.owner)
    × (worker_flavor l.owner ≡ worker_flavor l.fn.owner)
    × (worker_view l.owner ≡ tally (all_parts - l.i) (worker_view l.fn.owner).put [])
    × (length l.hired.items ≡ l.i)
    × All (IsReady (worker_deque l.fn.owner) (worker_view l.fn.owner).put) l.hired.items
