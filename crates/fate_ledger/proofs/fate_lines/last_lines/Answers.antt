use Rattle.std.proofs.Common.{arith}
use Rattle.fate_ledger.proofs.EntryWalk.{underway_first, underway_on}
use Rattle.fate_ledger.proofs.fate_lines.last_lines.Goals as goal

pub loop-entry-init : goal.loop-entry-init
loop-entry-init c =
    underway_first c.args.entries.now c.into_iter-entry-iterator.result c.new-queues.result _ _
    c.into_iter-entry-iterator.ensures.into_iter_gives c.new-queues.ensures c.in_ok-kept.ensures

pub loop-entry-preserved : goal.loop-entry-preserved
loop-entry-preserved c =
    underway_on _ _ _ c.in-Some.entry.now _ _ _ _ _ (omega arith) c.requires.legal
    c.in-Some.ensures.steps c.in_ok-follow.ensures.queues c.in_ok-follow.ensures.kept
    c.loop-entry.invariant
