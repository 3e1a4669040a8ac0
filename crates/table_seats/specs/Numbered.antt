-- What there is for each number, once it changed for one.
use Rattle.std.proofs.Common.{◌≡◌, ℕ, ◌≢◌, ap, nat_eq, if◌then◌else◌}
use borrow.Author.Tests.{eq-eqb, ne_eqb}

module _ {A : Type 0} where
  -- the number n has this, each other what it had
  abbrev pub at_number : ℕ → A → (ℕ → A) → ℕ → A
  at_number n x f k = if nat_eq k n then x else f k

  pub at_same : (n k : ℕ) (x : A) (f : ℕ → A) → k ≡ n → at_number n x f k ≡ x
  at_same n k x f e = ap (λ b. if b then x else f k) (eq-eqb k n e)

  pub at_other : (n k : ℕ) (x : A) (f : ℕ → A) → k ≢ n → at_number n x f k ≡ f k
  at_other n k x f e = ap (λ b. if b then x else f k) (ne_eqb k n e)
