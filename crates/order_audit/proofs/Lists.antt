-- Lists of which something holds of each, or of each two.
use Rattle.std.proofs.Common.{◌≡◌, List, [], ◌∷◌, ◌++◌, refl, sym, subst, Bool, true}
use Rattle.std.proofs.Common.{false, append_assoc, append-nil, filter}
use Rattle.std.specs.Prelude.{if◌then◌else◌}
use Rattle.total_order.specs.Orders.{EachIs, Pairs, AreCaused}

module _ {A : Type 0} where
  -- one more
  pub each_more : (P : A → Type 0) (xs : List A) (x : A) → EachIs P xs → P x →
      EachIs P (xs ++ x ∷ [])
  each_more P [] x h p = (p, tt)
  each_more P (y ∷ xs) x h p = (h.0, each_more P xs x h.1 p)

  -- what follows holds too
  pub each_kept : (P Q : A → Type 0) (xs : List A) → ((x : A) → P x → Q x) → EachIs P xs →
      EachIs Q xs
  each_kept P Q [] f h = tt
  each_kept P Q (x ∷ xs) f h = (f x h.0, each_kept P Q xs f h.1)

  -- a test passes each that it picks out
  pub each_filter : (test : A → Bool) (xs : List A) →
      EachIs (λ x. test x ≡ true) (filter test xs)
  each_filter test [] = tt
  each_filter test (x ∷ xs) = by (test x) refl (each_filter test xs)
    where
      by : (b : Bool) → test x ≡ b → EachIs (λ x. test x ≡ true) (filter test xs) →
          EachIs (λ x. test x ≡ true) (if b then x ∷ filter test xs else filter test xs)
      by true t rest = (t, rest)
      by false t rest = rest

  -- one more at the end
  pub pairs_more : (R : A → A → Type 0) (xs : List A) (x : A) → Pairs R xs →
      EachIs (λ y. R y x) xs → Pairs R (xs ++ x ∷ [])
  pairs_more R [] x h k = (tt, tt)
  pairs_more R (y ∷ xs) x h k = (each_more (R y) xs x h.0 k.0, pairs_more R xs x h.1 k.1)

  -- one more that is caused
  pub caused_more : (C : List A → A → Type 0) (before xs : List A) (x : A) → AreCaused C before xs →
      C (before ++ xs) x → AreCaused C before (xs ++ x ∷ [])
  caused_more C before [] x h k = (subst (λ ys. C ys x) (append-nil before) k, tt)
  caused_more C before (y ∷ xs) x h k = (
    h.0,
    caused_more C (before ++ y ∷ []) xs x h.1
        (subst (λ ys. C ys x) (sym (append_assoc before (y ∷ []) xs)) k),
  )

  -- it holds of a front
  pub each_front : (P : A → Type 0) (xs ys : List A) → EachIs P (xs ++ ys) → EachIs P xs
  each_front P [] ys h = tt
  each_front P (x ∷ xs) ys h = (h.0, each_front P xs ys h.1)

  -- and of a back
  pub each_back : (P : A → Type 0) (xs ys : List A) → EachIs P (xs ++ ys) → EachIs P ys
  each_back P [] ys h = h
  each_back P (x ∷ xs) ys h = each_back P xs ys h.1

  -- what follows of two things holds too
  pub each_two : (P Q R : A → Type 0) (xs : List A) → ((x : A) → P x → Q x → R x) → EachIs P xs →
      EachIs Q xs → EachIs R xs
  each_two P Q R [] f h k = tt
  each_two P Q R (x ∷ xs) f h k = (f x h.0 k.0, each_two P Q R xs f h.1 k.1)

  -- it holds of each that a test picks out
  pub each_part : (P : A → Type 0) (test : A → Bool) (xs : List A) → EachIs P xs →
      EachIs P (filter test xs)
  each_part P test [] h = tt
  each_part P test (x ∷ xs) h = by (test x) (each_part P test xs h.1)
    where
      by : (b : Bool) → EachIs P (filter test xs) →
          EachIs P (if b then x ∷ filter test xs else filter test xs)
      by true rest = (h.0, rest)
      by false rest = rest

  -- of those before one
  pub pairs_before : (R : A → A → Type 0) (xs ys : List A) (x : A) → Pairs R (xs ++ x ∷ ys) →
      EachIs (λ y. R y x) xs
  pairs_before R [] ys x h = tt
  pairs_before R (y ∷ xs) ys x h =
      ((each_back (R y) xs (x ∷ ys) h.0).0, pairs_before R xs ys x h.1)

  -- and of those after it
  pub pairs_after : (R : A → A → Type 0) (xs ys : List A) (x : A) → Pairs R (xs ++ x ∷ ys) →
      EachIs (R x) ys
  pairs_after R [] ys x h = h.0
  pairs_after R (y ∷ xs) ys x h = pairs_after R xs ys x h.1

  -- one is caused by those before it
  pub caused_at : (C : List A → A → Type 0) (before xs ys : List A) (x : A) →
      AreCaused C before (xs ++ x ∷ ys) → C (before ++ xs) x
  caused_at C before [] ys x h = subst (λ zs. C zs x) (sym (append-nil before)) h.0
  caused_at C before (y ∷ xs) ys x h = subst (λ zs. C zs x) (append_assoc before (y ∷ []) xs)
      (caused_at C (before ++ y ∷ []) xs ys x h.1)

  -- what follows of causes holds of each
  pub each_caused : (C : List A → A → Type 0) (P : A → Type 0) →
      ((b : List A) (x : A) → C b x → P x) → (before xs : List A) → AreCaused C before xs → EachIs P xs
  each_caused C P f before [] h = tt
  each_caused C P f before (x ∷ xs) h =
      (f before x h.0, each_caused C P f (before ++ x ∷ []) xs h.1)

  -- lists with a common front have the same back
  pub cancel : (xs ys zs : List A) → xs ++ ys ≡ xs ++ zs → ys ≡ zs
  cancel [] ys zs e = e
  cancel (x ∷ xs) ys zs e = cancel xs ys zs (cc e)

  -- what holds of anything
  pub each_all : (P : A → Type 0) (xs : List A) → ((x : A) → P x) → EachIs P xs
  each_all P [] f = tt
  each_all P (x ∷ xs) f = (f x, each_all P xs f)
