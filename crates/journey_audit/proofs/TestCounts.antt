-- How many of a list pass a test.
use Rattle.std.proofs.Common.{◌≡◌, ◌≤◌, ◌<◌, ℕ, zero, suc, ◌+◌, List, [], ◌∷◌, ◌++◌, Bool, true}
use Rattle.std.proofs.Common.{false, cond, refl, sym, ap, ◌∙◌, arith, inl, inr}
use Rattle.std.specs.Prelude.{count_by, sum_by, flat_map, filter, ◌&&◌, not, ◌==◌, nat_lt}
use Rattle.std.proofs.lemmas.Bool.{cases_order, lt-ltb, le-ltb, eq-eqb, ne_eqb}
use Rattle.std.proofs.lemmas.List.Sums.{sum_by-cons, sum_by-append}

abbrev pub once : Bool → ℕ
once b = cond b 1 0

module _ {X : Type 0} (test : X → Bool) where
  pub count_cons : (x : X) (xs : List X) →
      count_by test (x ∷ xs) ≡ once (test x) + count_by test xs
  count_cons x xs = sum_by-cons (λ y. once (test y)) x xs

  pub count_append : (xs ys : List X) →
      count_by test (xs ++ ys) ≡ count_by test xs + count_by test ys
  count_append xs ys = sum_by-append (λ y. once (test y)) xs ys

  pub count_flat : {Y : Type 0} (f : Y → List X) (ys : List Y) →
      count_by test (flat_map f ys) ≡ sum_by (λ y. count_by test (f y)) ys
  count_flat f [] = refl
  count_flat f (y ∷ ys) =
      count_append (f y) (flat_map f ys)
      ∙ ap (λ n. count_by test (f y) + n) (count_flat f ys)
      ∙ sym (sum_by-cons (λ z. count_by test (f z)) y ys)

  -- one that may be left out
  kept : (b : Bool) (x : X) (xs : List X) (n : ℕ) → count_by test xs ≡ n →
      count_by test (cond b (x ∷ xs) xs) ≡ once (b && test x) + n
  kept true x xs n e = count_cons x xs ∙ ap (λ k. once (test x) + k) e
  kept false x xs n e = omega (arith, e)

  -- those that were chosen by another test
  pub count_filter : (p : X → Bool) (xs : List X) →
      count_by test (filter p xs) ≡ count_by (λ x. p x && test x) xs
  count_filter p [] = refl
  count_filter p (x ∷ xs) =
      kept (p x) x (filter p xs) (count_by (λ y. p y && test y) xs) (count_filter p xs)
      ∙ sym (sum_by-cons (λ y. once (p y && test y)) x xs)

-- each passes a test or its opposite
one_of_both : (b : Bool) → once b + once (not b) ≡ 1
one_of_both true = refl
one_of_both false = refl

pub count_not : {X : Type 0} (test : X → Bool) (xs : List X) →
    count_by test xs + count_by (λ x. not (test x)) xs ≡ count_by (λ x. true) xs
count_not test [] = refl
count_not test (x ∷ xs) =
    omega (
      arith,
      count_cons test x xs,
      count_cons (λ y. not (test y)) x xs,
      count_cons (λ y. true) x xs,
      one_of_both (test x),
      count_not test xs,
    )

-- ---- number by number

left : (t : Bool) → once t ≡ 0 + once t
left true = refl
left false = refl

right : (t : Bool) → once t ≡ once t + 0
right true = refl
right false = refl

one_more : (k n : ℕ) (t : Bool) →
    once (nat_lt k (suc n) && t) ≡ once (nat_lt k n && t) + once ((k == n) && t)
one_more k n t = elim (cases_order k n) [
  | inl same ↦ rw (lt-ltb k (suc n) (omega (arith, same))) (rw (le-ltb k n (omega (arith, same)))
      (rw (eq-eqb k n same) (left t)))
  | inr apart ↦ elim apart [
    | inl less ↦ rw (lt-ltb k (suc n) (omega (arith, less))) (rw (lt-ltb k n less)
        (rw (ne_eqb k n (λ same. omega (arith, same, less))) (right t)))
    | inr more ↦ rw (le-ltb k (suc n) (omega (arith, more))) (rw (le-ltb k n (omega (arith, more)))
        (rw (ne_eqb k n (λ same. omega (arith, same, more))) refl))
  ]
]

module _ {X : Type 0} (number : X → ℕ) (test : X → Bool) where
  -- passes, and has a number below this one, or this number
  abbrev below : ℕ → X → Bool
  below n x = nat_lt (number x) n && test x

  abbrev at : ℕ → X → Bool
  at n x = (number x == n) && test x

  count_below : (n : ℕ) (xs : List X) →
      count_by (below (suc n)) xs ≡ count_by (below n) xs + count_by (at n) xs
  count_below n [] = refl
  count_below n (x ∷ xs) =
      omega (
        arith,
        count_cons (below (suc n)) x xs,
        count_cons (below n) x xs,
        count_cons (at n) x xs,
        one_more (number x) n (test x),
        count_below n xs,
      )

  none_below : (xs : List X) → count_by (below 0) xs ≡ 0
  none_below [] = refl
  none_below (x ∷ xs) =
      omega (arith, count_cons (below 0) x xs, none_here, none_below xs)
    where
      none_here : once (nat_lt (number x) 0 && test x) ≡ 0
      none_here = ap (λ b. once (b && test x)) (le-ltb (number x) 0 (omega arith))

  -- more than each number
  abbrev bound : List X → ℕ
  bound [] = 0
  bound (x ∷ xs) = suc (number x) + bound xs

  all_below : (n : ℕ) (xs : List X) → bound xs ≤ n → count_by (below n) xs ≡ count_by test xs
  all_below n [] few = refl
  all_below n (x ∷ xs) few =
      let more : suc (number x) + bound xs ≤ n = few in
      omega (
        arith,
        count_cons (below n) x xs,
        count_cons test x xs,
        here,
        all_below n xs (omega (arith, more)),
      )
    where
      first : bound (x ∷ xs) ≤ n → number x < n
      first fits = let more : suc (number x) + bound xs ≤ n = fits in omega (arith, more)

      here : once (nat_lt (number x) n && test x) ≡ once (test x)
      here = ap (λ b. once (b && test x)) (lt-ltb (number x) n (first few))

  -- where as many pass of each number, as many pass
  pub all_numbers : (xs ys : List X) →
      ((n : ℕ) → count_by (at n) xs ≡ count_by (at n) ys) →
      count_by test xs ≡ count_by test ys
  all_numbers xs ys each =
      sym (all_below (bound xs + bound ys) xs (omega arith))
      ∙ up_to (bound xs + bound ys)
      ∙ all_below (bound xs + bound ys) ys (omega arith)
    where
      up_to : (n : ℕ) → count_by (below n) xs ≡ count_by (below n) ys
      up_to zero = none_below xs ∙ sym (none_below ys)
      up_to (suc n) =
          count_below n xs ∙ ap (λ k. k + count_by (at n) xs) (up_to n)
          ∙ ap (λ k. count_by (below n) ys + k) (each n) ∙ sym (count_below n ys)
