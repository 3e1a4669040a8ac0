use Rattle.std.proofs.Common.{◌≤◌, length, sym, subst, arith}
use Rattle.std.specs.Prelude.{All}
use Rattle.std.proofs.lemmas.List.Elements.{All-cons}
use Rattle.packet_entry.specs.Numbers.{longest_packet}
use Rattle.fate_ledger.specs.declared.fate.FateLine.{FateLine}
use Rattle.queue_tests.proofs.ledgers.are_short.Goals as goal

abbrev Short : FateLine → Type 0
Short k = length k.payload ≤ longest_packet

pub loop-line-preserved : goal.loop-line-preserved
loop-line-preserved c =
    λ rest. c.loop-line.invariant
    (subst (All Short) (sym c.in-Some.ensures.steps)
    (All-cons Short c.in-Some.line.now _ (omega arith) rest))
