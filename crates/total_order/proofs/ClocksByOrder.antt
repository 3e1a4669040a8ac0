-- Things that have one order have times: their positions in it.
use Rattle.std.proofs.Common.{◌≡◌, ℕ, ◌+◌, ◌<◌, ◌≤◌, true, false, List, [], ◌∷◌, ◌++◌}
use Rattle.std.proofs.Common.{refl, sym, ap, subst, arith, nat_lt, length, append_assoc}
use Rattle.std.proofs.Common.{length-append}
use Rattle.std.proofs.lemmas.Bool.Decides.{nat_tests}
use Rattle.total_order.specs.Orders.{EachIs, Pairs, untimed, earlier, AreCaused, MayBeEarlier}
use Rattle.total_order.specs.Orders.{AreTimes}
use Rattle.total_order.proofs.Lists.{each_map, each_both, pairs_map, none_pass}

module _ {E : Type 0} where
  -- each with its position, counted from this number
  abbrev pub numbered : ℕ → List E → List (E × ℕ)
  numbered n [] = []
  numbered n (e ∷ es) = (e, n) ∷ numbered (n + 1) es

  pub untimed_numbered : (n : ℕ) (es : List E) → untimed (numbered n es) ≡ es
  untimed_numbered n [] = refl
  untimed_numbered n (e ∷ es) = ap (λ zs. e ∷ zs) (untimed_numbered (n + 1) es)

  high : (low n : ℕ) (es : List E) → low ≤ n → EachIs (λ x. low ≤ x.1) (numbered n es)
  high low n [] le = tt
  high low n (e ∷ es) le = (le, high low (n + 1) es (omega arith))

  each_numbered : (P : E → Type 0) (n : ℕ) (es : List E) → EachIs P es →
      EachIs (λ x. P x.0) (numbered n es)
  each_numbered P n [] h = tt
  each_numbered P n (e ∷ es) h = (h.0, each_numbered P (n + 1) es h.1)

  -- none of them is earlier than the first
  none_earlier : (t n : ℕ) (es : List E) → t ≤ n → earlier t (numbered n es) ≡ []
  none_earlier t n es le =
      none_pass (λ x. nat_lt x.1 t) (numbered n es)
      (each_map (λ x. n ≤ x.1) (λ x. nat_lt x.1 t ≡ false) (numbered n es)
      (λ x l. grind (arith, nat_tests)) (high n n es (omega arith)))

  -- what is earlier than a thing is what is before it
  earlier_numbered : (t n : ℕ) (before rest : List E) → t ≡ n + length before →
      untimed (earlier t (numbered n (before ++ rest))) ≡ before
  earlier_numbered t n [] rest e =
      ap (λ zs. untimed zs) (none_earlier t n rest (omega (arith, e)))
  earlier_numbered t n (b ∷ before) rest e =
      let lt : nat_lt n t ≡ true = grind (arith, nat_tests, e) in
      rw lt (ap (λ zs. b ∷ zs) (earlier_numbered t (n + 1) before rest (omega (arith, e))))

module _ {E : Type 0} (place : E → ℕ) (Caused : List E → E → Type 0)
    (MayPrecede : E → E → Type 0) where
  each_caused : (before rest : List E) → AreCaused Caused before rest →
      EachIs (λ x. Caused (untimed (earlier x.1 (numbered 0 (before ++ rest)))) x.0)
      (numbered (length before) rest)
  each_caused before [] h = tt
  each_caused before (e ∷ rest) h = (
    subst (λ zs. Caused zs e)
        (sym (earlier_numbered (length before) 0 before (e ∷ rest) (omega arith))) h.0,
    subst (λ n. EachIs (λ x. Caused (untimed (earlier x.1 (numbered 0 (before ++ e ∷ rest)))) x.0)
        (numbered n rest)) (length-append before (e ∷ []))
        (subst (λ zs. EachIs (λ x. Caused (untimed (earlier x.1 (numbered 0 zs))) x.0)
        (numbered (length (before ++ e ∷ [])) rest)) (append_assoc before (e ∷ []) rest)
        (each_caused (before ++ e ∷ []) rest h.1)),
  )

  -- the one comes before the other, and is earlier
  abbrev pub Apart : E × ℕ → E × ℕ → Type 0
  Apart x y = MayPrecede x.0 y.0 × (x.1 < y.1)

  pub apart_numbered : (n : ℕ) (es : List E) → Pairs MayPrecede es → Pairs Apart (numbered n es)
  apart_numbered n [] h = tt
  apart_numbered n (e ∷ es) h = (
    each_both (λ y. MayPrecede e y.0) (λ y. n < y.1) (numbered (n + 1) es)
        (each_numbered (MayPrecede e) (n + 1) es h.0)
        (each_map (λ y. n + 1 ≤ y.1) (λ y. n < y.1) (numbered (n + 1) es)
        (λ y l. omega arith) (high (n + 1) (n + 1) es (omega arith))),
    apart_numbered (n + 1) es h.1,
  )

  pub clocks_by_order : (all : List E) → AreCaused Caused [] all → Pairs MayPrecede all →
      AreTimes place Caused MayPrecede (numbered 0 all)
  clocks_by_order all caused kept = record {
    rise = pairs_map Apart (λ x y. place x.0 ≡ place y.0 → x.1 ≤ y.1) (numbered 0 all)
        (λ x y a e. let l = a.1 in omega arith) (apart_numbered 0 all kept);
    caused = each_caused [] all caused;
    kept = pairs_map Apart (λ x y. MayBeEarlier place Caused MayPrecede x y
        × MayBeEarlier place Caused MayPrecede y x) (numbered 0 all)
        (λ x y a. ((λ l. a.0), (λ l. let m = a.1 in absurd (omega arith))))
        (apart_numbered 0 all kept);
  }
