use Rattle.std.proofs.Common.{◌≤◌, ◌^◌}
use Rattle.order_audit.specs.Cursors.{Ascend}
use Rattle.order_audit.proofs.cursors.ascend.Given as goal

-- if what is still to come ascends from here on, all does
abbrev pub invariant-loop-did : goal.invariant-loop-did
invariant-loop-did l = (Ascend l.low l.did-iterator → Ascend 0 l.dids) × (l.low ≤ 2 ^ 32)
