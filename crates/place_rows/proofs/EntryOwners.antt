-- Each entry of a place's list is one row's own, and no other's.
use Rattle.std.proofs.Common.{◌≡◌, ◌<◌, ◌≤◌, ◌+◌, ℕ, zero, suc, List, [], ◌∷◌, refl, ◌∙◌}
use Rattle.std.proofs.Common.{arith, inl, inr}
use Rattle.std.specs.Prelude.{slice_get, Some, sum_by, nat_eq}
use Rattle.std.specs.List.{range_with_len}
use Rattle.std.proofs.lemmas.List.Sums.{sum_by-cons}
use Rattle.std.proofs.lemmas.Bool.{cases_Bool, eqb-true, eqb-false, eq-eqb}
use Rattle.turn_lock.specs.declared.view.View.{View}
use Rattle.place_rows.specs.Joining.{own_at, is_place}

pub at_other : (i j : ℕ) → (j ≡ i → ⊥) → is_place i j ≡ 0
at_other i j other =
    elim (cases_Bool (nat_eq j i)) [
      | inl h ↦ absurd (other (eqb-true j i h))
      | inr h ↦ rw h refl
    ]

at_same : (i j : ℕ) → j ≡ i → is_place i j ≡ 1
at_same i j same = rw (eq-eqb j i same) refl

none_below : (i low n : ℕ) → i < low → sum_by (is_place i) (range_with_len low n) ≡ 0
none_below i low zero less = refl
none_below i low (suc n) less =
    omega (
      arith,
      sum_by-cons (is_place i) low (range_with_len (low + 1) n),
      at_other i low (λ e. absurd (omega (arith, less, e))),
      none_below i (low + 1) n (omega (arith, less)),
    )

one_within : (i low n : ℕ) → low ≤ i → i < low + n → sum_by (is_place i) (range_with_len low n) ≡ 1
one_within i low zero most few = absurd (omega (arith, most, few))
one_within i low (suc n) most few =
    elim (cases_Bool (nat_eq low i)) [
      | inl h ↦ (let same = eqb-true low i h in
          omega (
            arith,
            sum_by-cons (is_place i) low (range_with_len (low + 1) n),
            at_same i low same,
            none_below i (low + 1) n (omega (arith, same)),
          ))
      | inr h ↦ (let other = eqb-false low i h in
          omega (
            arith,
            sum_by-cons (is_place i) low (range_with_len (low + 1) n),
            at_other i low other,
            one_within i (low + 1) n (omega (arith, most, other)) (omega (arith, few)),
          ))
    ]

-- over all rows, a place of the list is own once
pub own_once : {E S : Type 0} (rows : List (List (View E S))) (k n i : ℕ) →
    ((f : ℕ → ℕ) → sum_by (own_at f k) rows ≡ sum_by f (range_with_len 0 n)) → i < n →
    sum_by (own_at (is_place i) k) rows ≡ 1
own_once rows k n i once few =
    once (is_place i) ∙ one_within i 0 n (omega arith) (omega (arith, few))

-- so there is a pass whose it is
pub owner : {X : Type 0} (f : X → ℕ) (xs : List X) → 0 < sum_by f xs →
    (n : ℕ) × ((x : X) × ((slice_get xs n ≡ Some x) × (0 < f x)))
owner f [] some = absurd (omega (arith, some))
owner f (x ∷ xs) some =
    elim (cases_Bool (nat_eq (f x) 0)) [
      | inl h ↦ (let rest = owner f xs (omega (
        arith,
        some,
        eqb-true (f x) 0 h,
        sum_by-cons f x
            xs,
      )) in
          (suc rest.0, rest.1))
      | inr h ↦ (0, (x, (refl, omega (arith, eqb-false (f x) 0 h))))
    ]
