-- Sums over all seats, by std's `sum_by`, as one changes, a new one comes, or one takes another in.
use Rattle.std.proofs.Common.{◌≡◌, ℕ, zero, suc, ◌+◌, ◌≢◌, sum_by}
use Rattle.std.proofs.Common.{List, [], ◌∷◌, ◌++◌, set, refl, sym, ap, arith}
use Rattle.std.proofs.lemmas.List.Sums.{sum_by-cons, sum_by_push}
use mathlib.Core.Option.{some, some-injective, some-ne-none}
use lib.ListN.{get_elem?}

module _ {V : Type 0} (f : V → ℕ) where
  -- one seat changes
  pub sum_set : (vs : List V) (me : ℕ) (v w : V) → get_elem? vs me ≡ some v
      → sum_by f (set vs me w) + f v ≡ sum_by f vs + f w
  sum_set [] me v w e = absurd (some-ne-none v (sym e))
  sum_set (x ∷ xs) zero v w e =
      omega (arith, ap f (some-injective x v e), sum_by-cons f w xs, sum_by-cons f x xs)
  sum_set (x ∷ xs) (suc i) v w e =
      omega (arith, sum_set xs i v w e, sum_by-cons f x (set xs i w), sum_by-cons f x xs)

  -- one changes and weighs what it weighed, and a new one comes that weighs nothing
  pub sum_more : (vs : List V) (me : ℕ) (v l r : V) → get_elem? vs me ≡ some v → f l ≡ f v
      → f r ≡ 0 → sum_by f (set vs me l ++ r ∷ []) ≡ sum_by f vs
  sum_more vs me v l r at same none =
      omega (arith, sum_set vs me v l at, sum_by_push f (set vs me l) r)

  -- one seat takes another in
  pub sum_joined : (vs : List V) (me o : ℕ) (v w b e : V) → get_elem? vs me ≡ some v
      → get_elem? (set vs me b) o ≡ some w
      → sum_by f (set (set vs me b) o e) + (f v + f w) ≡ sum_by f vs + (f b + f e)
  sum_joined vs me o v w b e at other =
      omega (arith, sum_set vs me v b at, sum_set (set vs me b) o w e other)

  sum_of_none : (vs : List V) → ((i : ℕ) (u : V) → get_elem? vs i ≡ some u → f u ≡ 0)
      → sum_by f vs ≡ 0
  sum_of_none [] h = refl
  sum_of_none (x ∷ xs) h =
      omega (arith, h 0 x refl, sum_of_none xs (λ i u at. h (suc i) u at), sum_by-cons f x xs)

  -- one seat weighs all, as the others weigh nothing
  pub sum_of_one : (vs : List V) (me : ℕ) (v : V) → get_elem? vs me ≡ some v
      → ((i : ℕ) (u : V) → i ≢ me → get_elem? vs i ≡ some u → f u ≡ 0) → sum_by f vs ≡ f v
  sum_of_one [] me v e h = absurd (some-ne-none v (sym e))
  sum_of_one (x ∷ xs) zero v e h =
      let rest = sum_of_none xs (λ i u at. h (suc i) u (λ t. omega arith) at) in
      omega (arith, ap f (some-injective x v e), rest, sum_by-cons f x xs)
  sum_of_one (x ∷ xs) (suc i) v e h =
      let none : f x ≡ 0 = h 0 x (λ t. omega arith) refl in
      let rest = sum_of_one xs i v e (λ j u ne at. h (suc j) u (λ t. ne (omega arith)) at) in
      omega (arith, none, rest, sum_by-cons f x xs)
