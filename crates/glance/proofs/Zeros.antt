-- Rows of zeros, and their first places.
use Rattle.std.proofs.Common.{◌≡◌, ◌≤◌, ℕ, zero, suc, List, length, refl, ap, arith, get_or, take}
use Rattle.std.proofs.Common.{replicate}

-- a zero
abbrev nothing : ℕ
nothing = 0

abbrev zeros : ℕ → List ℕ
zeros m = replicate m 0

pub zeros_at : (n m k : ℕ) → get_or (take n (zeros m)) k 0 ≡ nothing
zeros_at zero m k = refl
zeros_at (suc n) zero k = refl
zeros_at (suc n) (suc m) zero = refl
zeros_at (suc n) (suc m) (suc k) = zeros_at n m k

pub zeros_length : (n m : ℕ) → n ≤ m → length (take n (zeros m)) ≡ n
zeros_length zero m h = refl
zeros_length (suc n) zero h = absurd (omega arith)
zeros_length (suc n) (suc m) h = ap suc (zeros_length n m (omega arith))
