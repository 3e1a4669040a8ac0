-- The parts of places, of things with and without their times.
use Rattle.std.proofs.Common.{◌≡◌, ℕ, ◌≤◌, Bool, true, false, List, [], ◌∷◌, map}
use Rattle.std.proofs.Common.{refl, sym, ap, subst, ◌∙◌, arith, filter, nat_lt, ◌==◌, ◌&&◌}
use Rattle.std.proofs.Common.{if◌then◌else◌, append-nil}
use Rattle.std.proofs.lemmas.Bool.Decides.{nat_tests}
use Rattle.std.proofs.lemmas.List.{map-append}
use mathlib.Core.List.{IsPrefix}
use Rattle.total_order.specs.Orders.{Pairs, untimed, earlier, part}
use Rattle.total_order.proofs.Lists.{each_map, none_pass}

module _ {A : Type 0} where
  pub prefix_self : (xs : List A) → IsPrefix xs xs
  prefix_self xs = ([], append-nil xs)

  pub prefix_none : (xs : List A) → IsPrefix [] xs
  prefix_none xs = (xs, refl)

  prefix_cons : (x : A) (xs ys : List A) → IsPrefix xs ys → IsPrefix (x ∷ xs) (x ∷ ys)
  prefix_cons x xs ys p = (p.0, ap (λ zs. x ∷ zs) p.1)

pub prefix_mapped : {A B : Type 0} (f : A → B) (xs ys : List A) → IsPrefix xs ys →
    IsPrefix (map f xs) (map f ys)
prefix_mapped f xs ys p = (map f p.0, sym (map-append f xs p.0) ∙ ap (λ zs. map f zs) p.1)

module _ {E : Type 0} (place : E → ℕ) where
  abbrev pub is_at : ℕ → E × ℕ → Bool
  is_at p x = place x.0 == p

  -- at this place, and earlier than this time
  abbrev pub is_before : ℕ → ℕ → E × ℕ → Bool
  is_before p t x = (place x.0 == p) && nat_lt x.1 t

  -- a part with times, and without them
  pub part_untimed : (p : ℕ) (xs : List (E × ℕ)) →
      part place p (untimed xs) ≡ untimed (filter (is_at p) xs)
  part_untimed p [] = refl
  part_untimed p (x ∷ xs) = by (part_untimed p xs) (place x.0 == p)
    where
      by : part place p (untimed xs) ≡ untimed (filter (is_at p) xs) → (b : Bool) →
          (if b then x.0 ∷ part place p (untimed xs) else part place p (untimed xs))
          ≡ untimed (if b then x ∷ filter (is_at p) xs else filter (is_at p) xs)
      by rest true = ap (λ zs. x.0 ∷ zs) rest
      by rest false = rest

  -- the part of what is earlier
  pub at_earlier : (p t : ℕ) (xs : List (E × ℕ)) →
      filter (is_at p) (earlier t xs) ≡ filter (is_before p t) xs
  at_earlier p t [] = refl
  at_earlier p t (x ∷ xs) = by (at_earlier p t xs) (place x.0 == p) (nat_lt x.1 t) refl
    where
      by : filter (is_at p) (earlier t xs) ≡ filter (is_before p t) xs → (b c : Bool) →
          (place x.0 == p) ≡ b →
          filter (is_at p) (if c then x ∷ earlier t xs else earlier t xs)
          ≡ (if b && c then x ∷ filter (is_before p t) xs else filter (is_before p t) xs)
      by rest true true e = rw e (ap (λ zs. x ∷ zs) rest)
      by rest false true e = rw e rest
      by rest true false e = rest
      by rest false false e = rest

  -- in an ascending list what is earlier comes first
  pub before_first : (p t : ℕ) (xs : List (E × ℕ)) → Pairs (λ x y. x.1 ≤ y.1) xs →
      IsPrefix (filter (is_before p t) xs) (filter (is_at p) xs)
  before_first p t [] h = ([], refl)
  before_first p t (x ∷ xs) h =
      by (before_first p t xs h.1) (place x.0 == p) (nat_lt x.1 t) refl
    where
      none : (b : Bool) → nat_lt x.1 t ≡ false →
          IsPrefix (filter (is_before p t) xs)
          (if b then x ∷ filter (is_at p) xs else filter (is_at p) xs)
      none b e =
          subst (λ zs. IsPrefix zs (if b then x ∷ filter (is_at p) xs else filter (is_at p) xs))
          (sym (none_pass (is_before p t) xs
          (each_map (λ y. x.1 ≤ y.1) (λ y. is_before p t y ≡ false) xs
          (λ y l. grind (arith, nat_tests)) h.0)))
          (prefix_none (if b then x ∷ filter (is_at p) xs else filter (is_at p) xs))

      by : IsPrefix (filter (is_before p t) xs) (filter (is_at p) xs) → (b c : Bool) →
          nat_lt x.1 t ≡ c →
          IsPrefix (if b && c then x ∷ filter (is_before p t) xs else filter (is_before p t) xs)
          (if b then x ∷ filter (is_at p) xs else filter (is_at p) xs)
      by rest true true e =
          prefix_cons x (filter (is_before p t) xs) (filter (is_at p) xs) rest
      by rest false true e = rest
      by rest true false e = none true e
      by rest false false e = none false e
