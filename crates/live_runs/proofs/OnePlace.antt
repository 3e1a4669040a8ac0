-- What holds at one place, or of one pass, and of all others.
use Rattle.std.proofs.Common.{◌≢◌, inl, inr, subst, sym, ℕ}
use Rattle.std.proofs.lemmas.Bool.Decides.{eqb_tells}

-- what holds here, and wherever else, holds everywhere
pub here_and_elsewhere : (P : ℕ → Type 0) (here : ℕ) → P here → ((k : ℕ) → k ≢ here → P k) →
    (k : ℕ) → P k
here_and_elsewhere P here at_here elsewhere k =
    elim (eqb_tells k here) [
      | inl (yes_, same) ↦ subst P (sym same) at_here
      | inr (no_, other) ↦ elsewhere k other
    ]
