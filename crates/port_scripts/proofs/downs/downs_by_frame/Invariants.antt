use Rattle.std.proofs.Common.{◌≡◌, ◌++◌, ℕ}
use Rattle.std.specs.Prelude.{filter}
use Rattle.run_parts.specs.Feeder.{downs_after, is_after}
use Rattle.port_scripts.specs.Downs.{lines_after}
use Rattle.port_scripts.proofs.downs.downs_by_frame.Given as goal

abbrev pub invariant-loop-down : goal.invariant-loop-down
invariant-loop-down l = record {
  on : (number : ℕ) → lines_after l.by_frame number ++ filter (is_after number) l.down-iterator
      ≡ downs_after l.script number;
}
