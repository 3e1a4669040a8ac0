-- Things with times have one order: that of their times.
use Rattle.std.proofs.Common.{◌≡◌, ℕ, ◌≤◌, true, false, List, [], ◌∷◌, ◌++◌}
use Rattle.std.proofs.Common.{refl, sym, ap, subst, ◌∙◌, arith, filter, append-nil, append_assoc}
use Rattle.std.proofs.lemmas.Bool.Decides.{nat_tests}
use Rattle.std.proofs.lemmas.List.{map-append}
use Rattle.std.proofs.lemmas.List.Elements.{filter-append}
use mathlib.Core.List.{IsPrefix}
use Rattle.total_order.specs.Orders.{EachIs, Pairs, untimed, earlier, part, GoesOn, AreCaused}
use Rattle.total_order.specs.Orders.{IsOrder, MayBeEarlier, AreTimes}
use Rattle.total_order.proofs.Lists.{each_map, pairs_map, pairs_both, pairs_front, pairs_back}
use Rattle.total_order.proofs.Lists.{none_pass}
use Rattle.total_order.proofs.Sort.{sorted, Low, each_sorted, sorted_ascends, pairs_sorted}
use Rattle.total_order.proofs.Sort.{filter_sorted}
use Rattle.total_order.proofs.Parts.{prefix_mapped, is_at, is_before, part_untimed, at_earlier}
use Rattle.total_order.proofs.Parts.{before_first}

module _ {E : Type 0} where
  each_untimed : (P : E → Type 0) (ys : List (E × ℕ)) → EachIs (λ y. P y.0) ys →
      EachIs P (untimed ys)
  each_untimed P [] h = tt
  each_untimed P (y ∷ ys) h = (h.0, each_untimed P ys h.1)

  pairs_untimed : (R : E → E → Type 0) (xs : List (E × ℕ)) → Pairs (λ x y. R x.0 y.0) xs →
      Pairs R (untimed xs)
  pairs_untimed R [] h = tt
  pairs_untimed R (x ∷ xs) h = (each_untimed (R x.0) xs h.0, pairs_untimed R xs h.1)

module _ {E : Type 0} (place : E → ℕ) (Caused : List E → E → Type 0)
    (MayPrecede : E → E → Type 0) where
  -- what causes a thing goes on to cause it, as each place's part goes on
  abbrev pub Persists : Type 0
  Persists = (e : E) (es fs : List E) → GoesOn place es fs → Caused es e → Caused fs e

  -- what is earlier comes before
  earlier_before : (xs before after : List (E × ℕ)) (x : E × ℕ) →
      AreTimes place Caused MayPrecede xs → sorted xs ≡ before ++ x ∷ after →
      GoesOn place (untimed (earlier x.1 xs)) (untimed before)
  earlier_before xs before after x times e p =
      subst (λ zs. IsPrefix zs (part place p (untimed before))) (sym same)
      (subst (λ zs. IsPrefix (untimed (filter (is_before place p x.1) before)) zs)
      (sym (part_untimed place p before))
      (prefix_mapped (λ y. y.0) (filter (is_before place p x.1) before)
      (filter (is_at place p) before) (before_first place p x.1 before ascends)))
    where
      whole : Pairs Low (before ++ x ∷ after)
      whole = subst (λ zs. Pairs Low zs) e (sorted_ascends xs)

      ascends : Pairs Low before
      ascends = pairs_front Low before (x ∷ after) whole

      none : EachIs (λ y. is_before place p x.1 y ≡ false) (x ∷ after)
      none =
          let up = (pairs_back Low before (x ∷ after) whole).0 in (
            grind (arith, nat_tests),
            each_map (λ y. x.1 ≤ y.1) (λ y. is_before place p x.1 y ≡ false) after
                (λ y l. grind (arith, nat_tests)) up,
          )

      kept : filter (is_before place p x.1) xs ≡ filter (is_before place p x.1) before
      kept = sym (filter_sorted (is_before place p x.1) xs
          (pairs_map (λ y z. place y.0 ≡ place z.0 → y.1 ≤ z.1)
          (λ y z. is_before place p x.1 y ≡ true → is_before place p x.1 z ≡ true → y.1 ≤ z.1) xs
          (λ y z f a b. f (grind (arith, nat_tests))) times.rise))
          ∙ ap (λ zs. filter (is_before place p x.1) zs) e
          ∙ filter-append (is_before place p x.1) before (x ∷ after)
          ∙ ap (λ zs. filter (is_before place p x.1) before ++ zs)
          (none_pass (is_before place p x.1) (x ∷ after) none)
          ∙ append-nil (filter (is_before place p x.1) before)

      same : part place p (untimed (earlier x.1 xs))
          ≡ untimed (filter (is_before place p x.1) before)
      same = part_untimed place p (earlier x.1 xs)
          ∙ ap (λ zs. untimed zs) (at_earlier place p x.1 xs ∙ kept)

  -- in the sorted list each is caused by what is before it
  caused_from : Persists → (xs before rest : List (E × ℕ)) →
      AreTimes place Caused MayPrecede xs → sorted xs ≡ before ++ rest →
      EachIs (λ x. Caused (untimed (earlier x.1 xs)) x.0) rest →
      AreCaused Caused (untimed before) (untimed rest)
  caused_from persists xs before [] times e h = tt
  caused_from persists xs before (x ∷ rest) times e h = (
    persists x.0 (untimed (earlier x.1 xs)) (untimed before)
        (earlier_before xs before rest x times e) h.0,
    subst (λ zs. AreCaused Caused zs (untimed rest)) (map-append (λ y. y.0) before (x ∷ []))
        (caused_from persists xs (before ++ x ∷ []) rest times
        (e ∙ sym (append_assoc before (x ∷ []) rest)) h.1),
  )

  -- whichever isn't later may come before the other
  abbrev Either : E × ℕ → E × ℕ → Type 0
  Either x y = MayBeEarlier place Caused MayPrecede x y × MayBeEarlier place Caused MayPrecede y x

  -- the order is the list sorted by times
  pub order_by_clocks : Persists → (xs : List (E × ℕ)) → AreTimes place Caused MayPrecede xs →
      IsOrder place Caused MayPrecede (untimed xs) (untimed (sorted xs))
  order_by_clocks persists xs times = record {
    same = λ p. part_untimed place p (sorted xs)
        ∙ ap (λ zs. untimed zs) (filter_sorted (is_at place p) xs
        (pairs_map (λ y z. place y.0 ≡ place z.0 → y.1 ≤ z.1)
        (λ y z. is_at place p y ≡ true → is_at place p z ≡ true → y.1 ≤ z.1) xs
        (λ y z f a b. f (grind (arith, nat_tests))) times.rise))
        ∙ sym (part_untimed place p xs);
    caused = caused_from persists xs [] (sorted xs) times refl
        (each_sorted (λ x. Caused (untimed (earlier x.1 xs)) x.0) xs times.caused);
    kept = pairs_untimed MayPrecede (sorted xs)
        (pairs_map (λ x y. Low x y × Either x y) (λ x y. MayPrecede x.0 y.0) (sorted xs)
        (λ x y h. h.1.0 h.0)
        (pairs_both Low Either (sorted xs) (sorted_ascends xs)
        (pairs_sorted Either (λ x y h. (h.1, h.0)) xs times.kept)));
  }
