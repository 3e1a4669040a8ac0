use Rattle.fate_ledger.proofs.FateCounts.{IsCounted}
use Rattle.fate_ledger.proofs.counts.counted.Given as goal

abbrev pub invariant-loop-line : goal.invariant-loop-line
invariant-loop-line l = IsCounted l.lines l.line-iterator l.counts
