use Rattle.fate_ledger.proofs.EntryWalk.{IsUnderway}
use Rattle.fate_ledger.proofs.fate_lines.last_lines.Given as goal

abbrev pub invariant-loop-entry : goal.invariant-loop-entry
invariant-loop-entry l = IsUnderway l.entries l.entry-iterator l.queues l.kept l.frames
