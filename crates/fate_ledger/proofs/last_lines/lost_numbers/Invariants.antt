use Rattle.std.proofs.Common.{◌≡◌, ℕ}
use Rattle.std.specs.Prelude.{◌||◌}
use Rattle.std.specs.Ordering.{nat_cmp}
use Rattle.std.specs.BTreeSet.{contains}
use Rattle.fate_ledger.specs.Fates.{is_lost}
use Rattle.fate_ledger.proofs.last_lines.lost_numbers.Given as goal

-- a lost packet's number is kept, or is still to come
abbrev pub invariant-loop-one : goal.invariant-loop-one
invariant-loop-one l =
    (number : ℕ) → contains nat_cmp l.numbers number || is_lost l.one-iterator number
    ≡ is_lost l.losts number
