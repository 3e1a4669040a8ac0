use Rattle.std.proofs.Common.{◌≡◌, ◌+◌, drop}
use Rattle.feeder_audit.specs.Rows.{lines_before}
use Rattle.feeder_audit.proofs.lines.lines_before.Given as goal

-- those that were looked at stand before the frame
abbrev pub invariant-loop-place : goal.invariant-loop-place
invariant-loop-place l =
    lines_before l.number l.left ≡ l.place + lines_before l.number (drop l.place l.left)
