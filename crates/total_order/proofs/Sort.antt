-- Things with times, put in the order of their times: those that a test picks out stay in their
-- order if their times don't descend, and what holds of each two either way round holds of them
-- then.
use Rattle.std.proofs.Common.{◌≡◌, ℕ, ◌≤◌, Bool, true, false, List, [], ◌∷◌, refl, ap, ◌∙◌, arith}
use Rattle.std.proofs.Common.{filter, nat_le, if◌then◌else◌, le_trans}
use Rattle.std.proofs.lemmas.Bool.Decides.{nat_tests}
use Rattle.total_order.specs.Orders.{EachIs, Pairs}
use Rattle.total_order.proofs.Lists.{each_map}

module _ {E : Type 0} where
  -- put before the first that isn't earlier
  abbrev pub insert : E × ℕ → List (E × ℕ) → List (E × ℕ)
  insert x [] = x ∷ []
  insert x (y ∷ ys) = if nat_le x.1 y.1 then x ∷ y ∷ ys else y ∷ insert x ys

  abbrev pub sorted : List (E × ℕ) → List (E × ℕ)
  sorted [] = []
  sorted (x ∷ xs) = insert x (sorted xs)

  abbrev pub Low : E × ℕ → E × ℕ → Type 0
  Low x y = x.1 ≤ y.1

  each_insert : (P : E × ℕ → Type 0) (x : E × ℕ) (ys : List (E × ℕ)) → P x → EachIs P ys →
      EachIs P (insert x ys)
  each_insert P x [] p h = (p, tt)
  each_insert P x (y ∷ ys) p h = by (each_insert P x ys p h.1) (nat_le x.1 y.1)
    where
      by : EachIs P (insert x ys) → (b : Bool) →
          EachIs P (if b then x ∷ y ∷ ys else y ∷ insert x ys)
      by rest true = (p, h)
      by rest false = (h.0, rest)

  pub each_sorted : (P : E × ℕ → Type 0) (xs : List (E × ℕ)) → EachIs P xs → EachIs P (sorted xs)
  each_sorted P [] h = tt
  each_sorted P (x ∷ xs) h = each_insert P x (sorted xs) h.0 (each_sorted P xs h.1)

  insert_ascends : (x : E × ℕ) (ys : List (E × ℕ)) → Pairs Low ys → Pairs Low (insert x ys)
  insert_ascends x [] h = (tt, tt)
  insert_ascends x (y ∷ ys) h = by (insert_ascends x ys h.1) (nat_le x.1 y.1) refl
    where
      by : Pairs Low (insert x ys) → (b : Bool) → nat_le x.1 y.1 ≡ b →
          Pairs Low (if b then x ∷ y ∷ ys else y ∷ insert x ys)
      by rest true e =
          let le : x.1 ≤ y.1 = grind (arith, nat_tests) in
          ((le, each_map (Low y) (Low x) ys (λ z l. le_trans le l) h.0), h)
      by rest false e = (each_insert (Low y) x ys (grind (arith, nat_tests)) h.0, rest)

  pub sorted_ascends : (xs : List (E × ℕ)) → Pairs Low (sorted xs)
  sorted_ascends [] = tt
  sorted_ascends (x ∷ xs) = insert_ascends x (sorted xs) (sorted_ascends xs)

  -- what holds of each two either way round
  pairs_insert : (R : E × ℕ → E × ℕ → Type 0) → ((x y : E × ℕ) → R x y → R y x) → (x : E × ℕ)
      (ys : List (E × ℕ)) → EachIs (R x) ys → Pairs R ys → Pairs R (insert x ys)
  pairs_insert R turned x [] h k = (tt, tt)
  pairs_insert R turned x (y ∷ ys) h k =
      by (pairs_insert R turned x ys h.1 k.1) (nat_le x.1 y.1)
    where
      by : Pairs R (insert x ys) → (b : Bool) →
          Pairs R (if b then x ∷ y ∷ ys else y ∷ insert x ys)
      by rest true = (h, k)
      by rest false = (each_insert (R y) x ys (turned x y h.0) k.0, rest)

  pub pairs_sorted : (R : E × ℕ → E × ℕ → Type 0) → ((x y : E × ℕ) → R x y → R y x) →
      (xs : List (E × ℕ)) → Pairs R xs → Pairs R (sorted xs)
  pairs_sorted R turned [] h = tt
  pairs_sorted R turned (x ∷ xs) h =
      pairs_insert R turned x (sorted xs) (each_sorted (R x) xs h.0)
      (pairs_sorted R turned xs h.1)

  filter_insert : (test : E × ℕ → Bool) (x : E × ℕ) (ys : List (E × ℕ)) →
      (test x ≡ true → EachIs (λ y. test y ≡ true → x.1 ≤ y.1) ys) →
      filter test (insert x ys) ≡ filter test (x ∷ ys)
  filter_insert test x [] h = refl
  filter_insert test x (y ∷ ys) h =
      by (filter_insert test x ys (λ t. (h t).1)) (nat_le x.1 y.1) refl
    where
      after : filter test (insert x ys) ≡ filter test (x ∷ ys) → nat_le x.1 y.1 ≡ false →
          (b c : Bool) → test x ≡ b → test y ≡ c →
          (if c then y ∷ filter test (insert x ys) else filter test (insert x ys))
          ≡ (if b then x ∷ (if c then y ∷ filter test ys else filter test ys)
          else (if c then y ∷ filter test ys else filter test ys))
      after rest e b false tx ty =
          rest ∙ ap (λ d. if d then x ∷ filter test ys else filter test ys) tx
      after rest e false true tx ty = ap (λ zs. y ∷ zs)
          (rest ∙ ap (λ d. if d then x ∷ filter test ys else filter test ys) tx)
      after rest e true true tx ty =
          let le : x.1 ≤ y.1 = (h tx).0 ty in absurd (grind (arith, nat_tests))

      by : filter test (insert x ys) ≡ filter test (x ∷ ys) → (b : Bool) → nat_le x.1 y.1 ≡ b →
          filter test (if b then x ∷ y ∷ ys else y ∷ insert x ys) ≡ filter test (x ∷ y ∷ ys)
      by rest true e = refl
      by rest false e = after rest e (test x) (test y) refl refl

  -- what a test picks out stays in its order
  pub filter_sorted : (test : E × ℕ → Bool) (xs : List (E × ℕ)) →
      Pairs (λ x y. test x ≡ true → test y ≡ true → x.1 ≤ y.1) xs →
      filter test (sorted xs) ≡ filter test xs
  filter_sorted test [] h = refl
  filter_sorted test (x ∷ xs) h =
      filter_insert test x (sorted xs)
      (λ t. each_sorted (λ y. test y ≡ true → x.1 ≤ y.1) xs
      (each_map (λ y. test x ≡ true → test y ≡ true → x.1 ≤ y.1)
      (λ y. test y ≡ true → x.1 ≤ y.1) xs (λ y f. f t) h.0))
      ∙ ap (λ zs. if test x then x ∷ zs else zs) (filter_sorted test xs h.1)
