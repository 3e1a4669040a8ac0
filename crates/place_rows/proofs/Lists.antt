-- Lists of which one item changes, beginnings of lists, and facts of each item.
use Rattle.std.proofs.Common.{◌≡◌, ◌≢◌, ◌<◌, ◌≤◌, ◌+◌, ◌-◌, ℕ, zero, suc, List, [], ◌∷◌, ◌++◌}
use Rattle.std.proofs.Common.{length, refl, sym, ap, ◌∙◌, arith, append-nil, append_assoc}
use Rattle.std.proofs.Common.{le_refl}
use Rattle.std.specs.Prelude.{slice_get, slice_set, Some}
use Rattle.std.specs.List.{range_with_len}
use mathlib.Core.List.{IsPrefix}
use Rattle.std.proofs.lemmas.List.{length-append}
use Rattle.turn_lock.specs.Places.{Ascends, IsPlaced, places_after}
use Rattle.place_rows.specs.Lists.{Every, AllFrom}

pub one_item : {X : Type 0} (x y : X) → Some x ≡ Some y → x ≡ y
one_item x y e = cc

-- ---- one item

module _ {X : Type 0} where
  pub get_same : (xs : List X) (i : ℕ) (w : X) → i < length xs →
      slice_get (slice_set xs i w) i ≡ Some w
  get_same [] i w h = absurd (omega arith)
  get_same (x ∷ xs) zero w h = refl
  get_same (x ∷ xs) (suc i) w h = get_same xs i w (omega arith)

  pub get_other : (xs : List X) (i j : ℕ) (w : X) → j ≢ i →
      slice_get (slice_set xs i w) j ≡ slice_get xs j
  get_other [] i j w h = refl
  get_other (x ∷ xs) zero zero w h = absurd (h refl)
  get_other (x ∷ xs) zero (suc j) w h = refl
  get_other (x ∷ xs) (suc i) zero w h = refl
  get_other (x ∷ xs) (suc i) (suc j) w h = get_other xs i j w (λ e. h (ap suc e))

  -- an item put where it stood
  pub same_again : (xs : List X) (i : ℕ) (x : X) → slice_get xs i ≡ Some x →
      slice_set xs i x ≡ xs
  same_again [] i x is = refl
  same_again (y ∷ xs) zero x is = ap (λ z. z ∷ xs) (sym (one_item y x is))
  same_again (y ∷ xs) (suc i) x is = ap (λ (l : List X). y ∷ l) (same_again xs i x is)

  pub item_at : (xs : List X) (k : ℕ) → k < length xs → (x : X) × (slice_get xs k ≡ Some x)
  item_at [] k h = absurd (omega arith)
  item_at (x ∷ xs) zero h = (x, refl)
  item_at (x ∷ xs) (suc k) h = item_at xs k (omega arith)

  -- items of a longer list
  pub get_longer : (xs ys : List X) (k : ℕ) → k < length xs →
      slice_get (xs ++ ys) k ≡ slice_get xs k
  get_longer [] ys k h = absurd (omega arith)
  get_longer (x ∷ xs) ys zero h = refl
  get_longer (x ∷ xs) ys (suc k) h = get_longer xs ys k (omega arith)

  pub get_seam : (xs : List X) (y : X) (ys : List X) →
      slice_get (xs ++ y ∷ ys) (length xs) ≡ Some y
  get_seam [] y ys = refl
  get_seam (x ∷ xs) y ys = get_seam xs y ys

  pub set_seam : (xs : List X) (y z : X) (ys : List X) →
      slice_set (xs ++ y ∷ ys) (length xs) z ≡ xs ++ z ∷ ys
  set_seam [] y z ys = refl
  set_seam (x ∷ xs) y z ys = ap (λ (l : List X). x ∷ l) (set_seam xs y z ys)

  -- ---- beginnings

  pub prefix_self : (xs : List X) → IsPrefix xs xs
  prefix_self xs = ([], append-nil xs)

  pub prefix_trans : (xs ys zs : List X) → IsPrefix xs ys → IsPrefix ys zs → IsPrefix xs zs
  prefix_trans xs ys zs p q =
      (p.0 ++ q.0, sym (append_assoc xs p.0 q.0) ∙ ap (λ (l : List X). l ++ q.0) p.1 ∙ q.1)

  pub prefix_length : (xs ys : List X) → IsPrefix xs ys → length xs ≤ length ys
  prefix_length xs ys p = omega (arith, sym (ap length p.1) ∙ length-append xs p.0)

  -- the last item of a beginning, and the beginning without it
  pub last_of : (whole xs rest : List X) (x : X) → IsPrefix xs whole → xs ≡ rest ++ x ∷ [] →
      slice_get whole (length rest) ≡ Some x
  last_of whole xs rest x begins is =
      ap (λ (l : List X). slice_get l (length rest))
      (sym begins.1 ∙ ap (λ (l : List X). l ++ begins.0) is
      ∙ append_assoc rest (x ∷ []) begins.0)
      ∙ get_seam rest x begins.0

  pub less_one : (whole xs rest : List X) (x : X) → IsPrefix xs whole → xs ≡ rest ++ x ∷ [] →
      IsPrefix rest whole
  less_one whole xs rest x begins is = (
    x ∷ begins.0,
    sym (append_assoc rest (x ∷ []) begins.0) ∙ ap (λ (l : List X). l ++ begins.0) (sym is)
        ∙ begins.1,
  )

-- ---- places of a list

wider : (low high low' high' : ℕ) (xs : List ℕ) → low' ≤ low → high ≤ high' →
    Ascends low high xs → Ascends low' high' xs
wider low high low' high' [] l h a = tt
wider low high low' high' (x ∷ xs) l h a = (
  omega (arith, a.0, l),
  (omega (arith, a.1.0, h), wider (x + 1) high (x + 1) high' xs (le_refl (x + 1)) h a.1.1),
)

ascends_append : (low mid high : ℕ) (xs ys : List ℕ) → low ≤ mid → mid ≤ high →
    Ascends low mid xs → Ascends mid high ys → Ascends low high (xs ++ ys)
ascends_append low mid high [] ys l h a b = wider mid high low high ys l (le_refl high) b
ascends_append low mid high (x ∷ xs) ys l h a b = (
  a.0,
  (
    omega (arith, a.1.0, h),
    ascends_append (x + 1) mid high xs ys (omega (arith, a.1.0)) h a.1.1 b,
  ),
)

range_ascends : (low n high : ℕ) → low + n ≤ high → Ascends low high (range_with_len low n)
range_ascends low zero high h = tt
range_ascends low (suc n) high h = (
  le_refl low,
  (omega (arith, h), range_ascends (low + 1) n high (omega (arith, h))),
)

module _ {E : Type 0} where
  pub placed_longer : (seen after : List E) (own : List ℕ) → IsPrefix seen after →
      IsPlaced seen own → IsPlaced after own
  placed_longer seen after own p a =
      wider 0 (length seen) 0 (length after) own (le_refl 0) (prefix_length seen after p) a

  -- the places that a turn appended are in the list that it left
  pub placed_after : (seen before after : List E) (own : List ℕ) → IsPrefix seen before →
      IsPrefix before after → IsPlaced seen own →
      IsPlaced after (own ++ places_after before after)
  placed_after seen before after own p q a =
      let less = prefix_length seen before p in
      let more = prefix_length before after q in
      let n : ℕ = length after - length before in
      ascends_append 0 (length before) (length after) own (range_with_len (length before) n)
      (omega arith) more (placed_longer seen before own p a)
      (range_ascends (length before) n (length after) (omega (arith, more)))

-- ---- facts of each item

module _ {X : Type 0} where
  pub every_mapped : (P Q : X → Type 0) (xs : List X) → ((x : X) → P x → Q x) → Every P xs →
      Every Q xs
  every_mapped P Q [] f all = tt
  every_mapped P Q (x ∷ xs) f all = (f x all.0, every_mapped P Q xs f all.1)

  pub every_both : (P : X → Type 0) (xs ys : List X) → Every P xs → Every P ys →
      Every P (xs ++ ys)
  every_both P [] ys one two = two
  every_both P (x ∷ xs) ys one two = (one.0, every_both P xs ys one.1 two)

  pub every_in_front : (P : X → Type 0) (xs ys : List X) → Every P (xs ++ ys) → Every P xs
  every_in_front P [] ys all = tt
  every_in_front P (x ∷ xs) ys all = (all.0, every_in_front P xs ys all.1)

  pub every_behind : (P : X → Type 0) (xs ys : List X) → Every P (xs ++ ys) → Every P ys
  every_behind P [] ys all = all
  every_behind P (x ∷ xs) ys all = every_behind P xs ys all.1

  pub all_from_mapped : (P Q : ℕ → X → Type 0) (n : ℕ) (xs : List X) →
      ((k : ℕ) (x : X) → P k x → Q k x) → AllFrom P n xs → AllFrom Q n xs
  all_from_mapped P Q n [] f all = tt
  all_from_mapped P Q n (x ∷ xs) f all = (f n x all.0, all_from_mapped P Q (n + 1) xs f all.1)
