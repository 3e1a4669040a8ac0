use Rattle.std.proofs.Common.{◌≡◌, ◌++◌}
use Rattle.place_rows.proofs.ending.gather.Given as goal

abbrev pub invariant-loop-entry : goal.invariant-loop-entry
invariant-loop-entry l = l.all.items ++ l.entry-iterator ≡ l.initial.all.items ++ l.fn.entries
