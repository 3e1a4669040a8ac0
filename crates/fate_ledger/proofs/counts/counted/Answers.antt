use Rattle.std.proofs.Common.{arith}
use Rattle.fate_ledger.proofs.FateCounts.{fits_on, counted_on, counted_all}
use Rattle.fate_ledger.proofs.counts.counted.Goals as goal

pub count-requires : goal.count-requires
count-requires c = record {
  few = fits_on _ _ _ c.in-Some.line.now c.loop-line.counts (omega arith)
      c.in-Some.ensures.steps c.loop-line.invariant;
}

pub loop-line-preserved : goal.loop-line-preserved
loop-line-preserved c =
    counted_on _ _ _ c.in-Some.line.now _ _ c.in-Some.ensures.steps c.count.ensures
    c.loop-line.invariant

pub returns : goal.returns
returns c = counted_all _ _ _ c.in-None.ensures.steps.0 c.loop-line.invariant
