use Rattle.std.proofs.Common.{◌≡◌, length, All}
use Rattle.script_lines.specs.Limits.{IsAsk}
use Rattle.inspector_pool.proofs.tray.blank.Given as goal

abbrev pub invariant-loop-i : goal.invariant-loop-i
invariant-loop-i l = (length l.tray.items ≡ l.i) × All (All IsAsk) l.tray.items
