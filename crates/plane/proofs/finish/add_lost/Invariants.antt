use Rattle.std.proofs.Common.{◌≡◌, ◌++◌}
use Rattle.plane.proofs.finish.add_lost.Given as goal

abbrev pub invariant-loop-lost : goal.invariant-loop-lost
invariant-loop-lost l = l.all.items ++ l.lost-iterator ≡ l.initial.all.items ++ l.fn.more.items
