use Rattle.std.proofs.Common.{◌≡◌, ◌++◌}
use Rattle.port_scripts.specs.Downs.{lines_after}
use Rattle.feeder_audit.proofs.lines.push_after.Given as goal

-- with those that are still to come, all are appended
abbrev pub invariant-loop-down : goal.invariant-loop-down
invariant-loop-down l =
    l.downs.items ++ l.down-iterator ≡ l.fn.downs.items ++ lines_after l.by_frame l.number
