use Rattle.std.proofs.Common.{◌≡◌, All}
use Rattle.crossbeam_deque.specs.Handles.{view, IsPassOf, stealer_deque}
use Rattle.inspector_pool.specs.Rule.{tally}
use Rattle.inspector_pool.specs.Work.{IsAnswered, jobs_in, jobs_of}
use Rattle.inspector_pool.proofs.pool_worker.steal_all.Given as goal

abbrev pub invariant-loop : goal.invariant-loop
invariant-loop g l =
    IsPassOf (stealer_deque l.thief) l.pass
    × (view l.pass ≡ tally 1 (jobs_in l.assignment) (jobs_of l.answered.items))
    × All (IsAnswered l.assignment) l.answered.items
