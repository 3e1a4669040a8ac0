use Rattle.fate_ledger.proofs.LastEventTable.{lost_on}
use Rattle.fate_ledger.proofs.last_lines.lost_numbers.Goals as goal

pub loop-one-preserved : goal.loop-one-preserved
loop-one-preserved c =
    lost_on _ _ _ _ _ c.in-Some.one.now c.in-Some.ensures.steps c.in_ok-insert.ensures.updates.0
    c.loop-one.invariant
