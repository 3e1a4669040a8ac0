use Rattle.fate_ledger.proofs.LastEventTable.{IsBegun}
use Rattle.fate_ledger.proofs.last_lines.LastLines.new.Given as goal

abbrev pub invariant-loop-frame : goal.invariant-loop-frame
invariant-loop-frame l = IsBegun l.payloads.items l.lines.items l.frame-iterator l.frames
