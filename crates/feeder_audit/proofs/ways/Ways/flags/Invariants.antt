use Rattle.std.proofs.Common.{◌≡◌, ◌++◌, drop}
use Rattle.feeder_audit.specs.Rows.{fallen, row_of}
use Rattle.feeder_audit.proofs.ways.Ways.flags.Given as goal

-- with the flags that are left, these are all
abbrev pub invariant-loop-place : goal.invariant-loop-place
invariant-loop-place l =
    l.flags.items ++ fallen l.device (drop l.place l.left) (row_of l.self) l.place
    ≡ fallen l.device l.left (row_of l.self) 0
