use Rattle.std.proofs.Common.{take}
use Rattle.order_audit.proofs.Places.{AreRows}
use Rattle.order_audit.proofs.rows.rows_of.Given as goal

-- the entries before this place are in
abbrev pub invariant-loop-place : goal.invariant-loop-place
invariant-loop-place l = AreRows l.entries l.rows (take l.place l.entries)
