-- For proofs alone: numbers as the keys of a map.
use Rattle.std.proofs.Common.{◌≡◌, ℕ, true, false, refl, sym, ap, ◌∙◌, subst, inl, inr}
use Rattle.std.proofs.Common.{true≢false}
use Rattle.std.specs.Prelude.{◌==◌}
use Rattle.std.specs.BTreeMap.{is_at}
use Rattle.std.specs.Ordering.{nat_cmp, is_eq}
use Rattle.std.specs.Cmp.{nat_cmp_is}
use Rattle.std.specs.declared.cmp.Ordering.{Ordering}
use Rattle.std.specs.declared.cmp.Ordering.TheVariants.{Less, Equal, Greater}
use Rattle.std.proofs.lemmas.Bool.{cases_Bool, ne_eqb}
use Rattle.std.proofs.lemmas.Map.Lookups.{exact_unsigned}

-- numbers that tie are the same
pub at_own : (k q : ℕ) → is_at (nat_cmp k) q ≡ true → k ≡ q
at_own k q h = exact_unsigned k q (equal (nat_cmp k q) h)
  where
    equal : (o : Ordering) → is_eq o ≡ true → o ≡ Equal
    equal Less h = absurd (true≢false (sym h))
    equal Equal h = refl
    equal Greater h = absurd (true≢false (sym h))

-- a number ties with itself
pub at_itself : (k : ℕ) → is_at (nat_cmp k) k ≡ true
at_itself k = ap is_eq (sym (nat_cmp_is k k Equal refl))

-- numbers that don't tie differ
pub not_of : (k q : ℕ) → is_at (nat_cmp k) q ≡ false → (k == q) ≡ false
not_of k q h = ne_eqb k q (λ same.
    true≢false (sym (subst (λ n. is_at (nat_cmp k) n ≡ true) same (at_itself k)) ∙ h))

-- what holds of this number, and of each other one, holds of all
pub each_number : (P : ℕ → Type 0) (k : ℕ) → P k →
    ((q : ℕ) → is_at (nat_cmp k) q ≡ false → P q) → (q : ℕ) → P q
each_number P k own others q = elim (cases_Bool (is_at (nat_cmp k) q)) [
  | inl here ↦ subst P (at_own k q here) own
  | inr other ↦ others q other
]
