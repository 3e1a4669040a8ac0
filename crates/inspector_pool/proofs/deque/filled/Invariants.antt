use Rattle.std.proofs.Common.{◌≡◌, []}
use Rattle.crossbeam_deque.specs.Handles.{worker_flavor, worker_view}
use Rattle.inspector_pool.specs.Rule.{all_parts, tally}
use Rattle.inspector_pool.proofs.deque.filled.Given as goal

abbrev pub invariant-loop-put : goal.invariant-loop-put
invariant-loop-put l =
    (worker_flavor l.owner ≡ 0) × (worker_view l.owner ≡ tally all_parts l.put [])
