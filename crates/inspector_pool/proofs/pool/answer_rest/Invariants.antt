use Rattle.std.proofs.Common.{◌≡◌, ◌++◌, All}
use Rattle.crossbeam_deque.specs.Handles.{worker_flavor, worker_view}
use Rattle.inspector_pool.specs.Rule.{all_parts, tally}
use Rattle.inspector_pool.specs.Work.{IsAnswered, jobs_in, jobs_of}
use Rattle.inspector_pool.proofs.pool.answer_rest.Given as goal

abbrev pub invariant-loop : goal.invariant-loop
invariant-loop g l =
    (worker_flavor l.owner ≡ 0)
    × (worker_view l.owner ≡ tally all_parts (jobs_in l.assignment)
    ((worker_view l.initial.owner).taken ++ jobs_of l.rest.items))
    × All (IsAnswered l.assignment) l.rest.items
