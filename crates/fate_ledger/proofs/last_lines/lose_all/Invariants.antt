use Rattle.std.proofs.Common.{◌≡◌, ◌++◌, map, take, drop}
use Rattle.std.specs.Ordering.{nat_cmp}
use Rattle.std.specs.BTreeSet.{contains}
use Rattle.fate_ledger.specs.Following.{lost_line}
use Rattle.fate_ledger.proofs.last_lines.lose_all.Given as goal

-- so many were looked at
abbrev pub invariant-loop-at : goal.invariant-loop-at
invariant-loop-at l =
    l.lines.items ≡ map (lost_line (contains nat_cmp l.lost)) (take l.at l.fn.lines.items)
    ++ drop l.at l.fn.lines.items
