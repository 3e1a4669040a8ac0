-- Numbers that ascend.
use Rattle.std.specs.Prelude.{◌≤◌, ℕ, List, [], ◌∷◌}

-- each is at least the one before it, and the first is at least this
abbrev pub AscendFrom : ℕ → List ℕ → Type 0
AscendFrom low [] = Unit {0}
AscendFrom low (x ∷ xs) = (low ≤ x) × AscendFrom x xs

abbrev pub Ascend : List ℕ → Type 0
Ascend xs = AscendFrom 0 xs
