use Rattle.std.proofs.Common.{◌≡◌, ◌<◌, ℕ, false}
use Rattle.feeder_audit.specs.Rows.{row_of}
use Rattle.feeder_audit.proofs.ways.Ways.first.Given as goal

-- no number before can be
abbrev pub invariant-loop-lines : goal.invariant-loop-lines
invariant-loop-lines l = (j : ℕ) → j < l.lines → row_of l.self j ≡ false
