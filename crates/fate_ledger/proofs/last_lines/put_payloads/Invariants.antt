use Rattle.std.proofs.Common.{◌≡◌}
use Rattle.fate_ledger.proofs.LastEventTable.{put_up_to}
use Rattle.fate_ledger.proofs.last_lines.put_payloads.Given as goal

-- so many have theirs
abbrev pub invariant-loop-at : goal.invariant-loop-at
invariant-loop-at l = l.lines.items ≡ put_up_to l.at l.payloads.items l.fn.lines.items
