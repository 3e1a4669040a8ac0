-- Lists of which something holds of each element, or of each two.
use Rattle.std.proofs.Common.{◌≡◌, ◌<◌, ◌≢◌, ℕ, zero, suc, Bool, true, false, List, [], ◌∷◌, ◌++◌}
use Rattle.std.proofs.Common.{refl, ap, subst, arith, filter, slice_get, Some, if◌then◌else◌}
use Rattle.total_order.specs.Orders.{EachIs, Pairs}

module _ {A : Type 0} where
  pub each_map : (P Q : A → Type 0) (xs : List A) → ((x : A) → P x → Q x) → EachIs P xs →
      EachIs Q xs
  each_map P Q [] f h = tt
  each_map P Q (x ∷ xs) f h = (f x h.0, each_map P Q xs f h.1)

  pub each_both : (P Q : A → Type 0) (xs : List A) → EachIs P xs → EachIs Q xs →
      EachIs (λ x. P x × Q x) xs
  each_both P Q [] h k = tt
  each_both P Q (x ∷ xs) h k = ((h.0, k.0), each_both P Q xs h.1 k.1)

  pub each_front : (P : A → Type 0) (xs ys : List A) → EachIs P (xs ++ ys) → EachIs P xs
  each_front P [] ys h = tt
  each_front P (x ∷ xs) ys h = (h.0, each_front P xs ys h.1)

  pub each_back : (P : A → Type 0) (xs ys : List A) → EachIs P (xs ++ ys) → EachIs P ys
  each_back P [] ys h = h
  each_back P (x ∷ xs) ys h = each_back P xs ys h.1

  pub each_append : (P : A → Type 0) (xs ys : List A) → EachIs P xs → EachIs P ys →
      EachIs P (xs ++ ys)
  each_append P [] ys h k = k
  each_append P (x ∷ xs) ys h k = (h.0, each_append P xs ys h.1 k)

  -- without one of them
  pub each_drop : (P : A → Type 0) (xs ys : List A) (s : A) → EachIs P (xs ++ s ∷ ys) →
      EachIs P (xs ++ ys)
  each_drop P xs ys s h =
      each_append P xs ys (each_front P xs (s ∷ ys) h) (each_back P xs (s ∷ ys) h).1

  pub pairs_map : (R S : A → A → Type 0) (xs : List A) → ((x y : A) → R x y → S x y) →
      Pairs R xs → Pairs S xs
  pairs_map R S [] f h = tt
  pairs_map R S (x ∷ xs) f h = (each_map (R x) (S x) xs (f x) h.0, pairs_map R S xs f h.1)

  pub pairs_both : (R S : A → A → Type 0) (xs : List A) → Pairs R xs → Pairs S xs →
      Pairs (λ x y. R x y × S x y) xs
  pairs_both R S [] h k = tt
  pairs_both R S (x ∷ xs) h k =
      (each_both (R x) (S x) xs h.0 k.0, pairs_both R S xs h.1 k.1)

  pub pairs_front : (R : A → A → Type 0) (xs ys : List A) → Pairs R (xs ++ ys) → Pairs R xs
  pairs_front R [] ys h = tt
  pairs_front R (x ∷ xs) ys h = (each_front (R x) xs ys h.0, pairs_front R xs ys h.1)

  pub pairs_back : (R : A → A → Type 0) (xs ys : List A) → Pairs R (xs ++ ys) → Pairs R ys
  pairs_back R [] ys h = h
  pairs_back R (x ∷ xs) ys h = pairs_back R xs ys h.1

  -- without one of them
  pub pairs_drop : (R : A → A → Type 0) (xs ys : List A) (s : A) → Pairs R (xs ++ s ∷ ys) →
      Pairs R (xs ++ ys)
  pairs_drop R [] ys s h = h.1
  pairs_drop R (x ∷ xs) ys s h = (each_drop (R x) xs ys s h.0, pairs_drop R xs ys s h.1)

  pub each_filter : (P : A → Type 0) (test : A → Bool) (xs : List A) → EachIs P xs →
      EachIs P (filter test xs)
  each_filter P test [] h = tt
  each_filter P test (x ∷ xs) h = by (each_filter P test xs h.1) (test x)
    where
      by : EachIs P (filter test xs) → (b : Bool) →
          EachIs P (if b then x ∷ filter test xs else filter test xs)
      by rest true = (h.0, rest)
      by rest false = rest

  pub pairs_append : (R : A → A → Type 0) (xs ys : List A) → Pairs R xs → Pairs R ys →
      EachIs (λ x. EachIs (R x) ys) xs → Pairs R (xs ++ ys)
  pairs_append R [] ys h k both = k
  pairs_append R (x ∷ xs) ys h k both =
      (each_append (R x) xs ys h.0 both.0, pairs_append R xs ys h.1 k both.1)

  -- ---- by positions

  pub each_by_position : (P : A → Type 0) (xs : List A) →
      ((i : ℕ) (x : A) → slice_get xs i ≡ Some x → P x) → EachIs P xs
  each_by_position P [] h = tt
  each_by_position P (x ∷ xs) h =
      (h 0 x refl, each_by_position P xs (λ i y e. h (suc i) y e))

  pub pairs_by_position : (R : A → A → Type 0) (xs : List A) →
      ((i l : ℕ) (x y : A) → slice_get xs i ≡ Some x → slice_get xs l ≡ Some y → i < l → R x y) →
      Pairs R xs
  pairs_by_position R [] h = tt
  pairs_by_position R (x ∷ xs) h = (
    each_by_position (R x) xs (λ l y e. h 0 (suc l) x y refl e (omega arith)),
    pairs_by_position R xs (λ i l y z e f less. h (suc i) (suc l) y z e f (omega arith)),
  )

  pub each_at : (P : A → Type 0) (xs : List A) → EachIs P xs → (i : ℕ) (x : A) →
      slice_get xs i ≡ Some x → P x
  each_at P [] h i x e = absurd (cc e)
  each_at P (y ∷ ys) h zero x e = subst P (cc e) h.0
  each_at P (y ∷ ys) h (suc i) x e = each_at P ys h.1 i x e

  -- what holds of each two either way round
  pub pairs_at : (R : A → A → Type 0) (xs : List A) → Pairs (λ x y. R x y × R y x) xs →
      (i l : ℕ) (x y : A) → slice_get xs i ≡ Some x → slice_get xs l ≡ Some y → i ≢ l → R x y
  pairs_at R [] h i l x y e f ne = absurd (cc e)
  pairs_at R (z ∷ zs) h zero zero x y e f ne = absurd (ne refl)
  pairs_at R (z ∷ zs) h zero (suc l) x y e f ne =
      let at : z ≡ x = cc e in
      subst (λ w. R w y) at (each_at (λ w. R z w × R w z) zs h.0 l y f).0
  pairs_at R (z ∷ zs) h (suc i) zero x y e f ne =
      let at : z ≡ y = cc f in
      subst (λ w. R x w) at (each_at (λ w. R z w × R w z) zs h.0 i x e).1
  pairs_at R (z ∷ zs) h (suc i) (suc l) x y e f ne =
      pairs_at R zs h.1 i l x y e f (λ same. ne (ap (λ n. suc n) same))

  -- ---- a test

  pub all_pass : (test : A → Bool) (xs : List A) → EachIs (λ x. test x ≡ true) xs →
      filter test xs ≡ xs
  all_pass test [] h = refl
  all_pass test (x ∷ xs) h = rw h.0 (ap (λ zs. x ∷ zs) (all_pass test xs h.1))

  pub none_pass : (test : A → Bool) (xs : List A) → EachIs (λ x. test x ≡ false) xs →
      filter test xs ≡ []
  none_pass test [] h = refl
  none_pass test (x ∷ xs) h = rw h.0 (none_pass test xs h.1)
