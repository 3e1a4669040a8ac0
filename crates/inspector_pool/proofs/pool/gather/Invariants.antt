use Rattle.std.proofs.Common.{◌≡◌, ◌+◌, ◌<◌, length, All}
use Rattle.std.specs.Vec.Iter.{into_iter_items}
use Rattle.std.specs.List.{concat}
use Rattle.crossbeam_deque.specs.Handles.{worker_deque, worker_flavor, worker_view}
use Rattle.inspector_pool.specs.Rule.{all_parts}
use Rattle.inspector_pool.specs.Work.{IsFilled, HasWorked, all_answers, jobs_in}
use Rattle.inspector_pool.proofs.pool.gather.Given as goal

-- from the third on, as in Gathering
abbrev pub invariant-loop-worker : goal.invariant-loop-worker
invariant-loop-worker g l =
    (worker_deque l.owner ≡ worker_deque l.fn.owner)
    × (worker_flavor l.owner ≡ 0)
    × ((worker_view l.owner).parts + length (into_iter_items l.worker-iterator) ≡ all_parts)
    × (0 < (worker_view l.owner).parts)
    × ((worker_view l.owner).put ≡ jobs_in l.assignment)
    × ((worker_view l.owner).taken ≡ concat l.shares.items)
    × (length l.shares.items + length (into_iter_items l.worker-iterator)
    ≡ length l.fn.workers.items)
    × IsFilled (all_answers l.assignment) (concat l.shares.items) l.tray.items
    × All (HasWorked (worker_deque l.fn.owner) l.assignment) (into_iter_items l.worker-iterator)
