use Rattle.std.proofs.Common.{◌≡◌}
use Rattle.turn_lock.specs.declared.view.Turn.TheVariants.{Outside}
use Rattle.turn_lock.specs.Passes.{view_of, IsOf}
use Rattle.plane_tests.proofs.tests.turns.append.Given as goal

abbrev pub invariant-loop-number : goal.invariant-loop-number
invariant-loop-number g l =
    IsOf l.lock l.pass × ((view_of l.pass).turn ≡ Outside) ×
    ((view_of l.pass).part ≡ (view_of l.initial.pass).part)
