use Rattle.std.proofs.Common.{◌≡◌, ◌++◌, length, All}
use Rattle.std.specs.Vec.Iter.{into_iter_items}
use Rattle.inspector_pool.specs.Rule.{IsJob}
use Rattle.inspector_pool.specs.Work.{jobs_of, placed}
use Rattle.inspector_pool.proofs.tray.put.Given as goal

-- as in Putting
abbrev pub invariant-loop-done : goal.invariant-loop-done
invariant-loop-done l =
    (length l.tray.items ≡ length l.fn.tray.items)
    × (placed l.tray.items (into_iter_items l.done-iterator)
    ≡ placed l.fn.tray.items l.fn.answered.items)
    × (l.share.items ++ jobs_of (into_iter_items l.done-iterator) ≡ jobs_of l.fn.answered.items)
    × All (λ s. IsJob (length l.tray.items) s.job) (into_iter_items l.done-iterator)
