use Rattle.order_audit.proofs.Logs.{AreCursorsSoFar}
use Rattle.order_audit.proofs.cursors.cursors_of.Given as goal

-- the logs before this place are gone over
abbrev pub invariant-loop-place : goal.invariant-loop-place
invariant-loop-place l = AreCursorsSoFar l.logs l.place l.cursors
