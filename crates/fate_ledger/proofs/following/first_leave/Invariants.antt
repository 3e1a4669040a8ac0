use Rattle.std.proofs.Common.{◌≡◌, ◌-◌, drop}
use Rattle.fate_ledger.specs.Following as following
use Rattle.fate_ledger.proofs.following.first_leave.Given as goal

-- so many have left, and the others are still to be noted
abbrev pub invariant-loop : goal.invariant-loop
invariant-loop l =
    (drop (l.count - l.counter) l.waiting ≡ drop l.count l.fn.waiting)
    × (following.noted_all
    (following.first_leave l.how l.mark l.priority (l.count - l.counter) l.waiting) l.kept
    ≡ following.noted_all (following.first_leave l.how l.mark l.priority l.count l.fn.waiting)
    l.fn.kept)
