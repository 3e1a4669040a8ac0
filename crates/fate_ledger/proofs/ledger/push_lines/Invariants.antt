use Rattle.std.proofs.Common.{◌≡◌, ◌++◌}
use Rattle.fate_ledger.specs.Ledger as text
use Rattle.fate_ledger.proofs.ledger.push_lines.Given as goal

-- the text so far, and that of what is still to come
abbrev pub invariant-loop-line : goal.invariant-loop-line
invariant-loop-line l =
    l.out.items ++ text.lines l.line-iterator ≡ l.fn.out.items ++ text.lines l.lines
