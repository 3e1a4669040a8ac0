use Rattle.std.proofs.Common.{◌≡◌, ◌++◌, drop}
use Rattle.fate_ledger.specs.Counts as text
use Rattle.fate_ledger.proofs.counts.push_counts.Given as goal

-- the text so far, and that of the fates that are left
abbrev pub invariant-loop-place : goal.invariant-loop-place
invariant-loop-place l =
    l.out.items ++ text.lines_of (drop l.place l.fates) (drop l.place l.counts)
    ≡ l.fn.out.items ++ text.lines_of l.fates l.counts
