-- Beginnings of a list, and ascending places in one.
use Rattle.std.proofs.Common.{◌≡◌, ℕ, zero, suc, ◌+◌, ◌-◌, ◌<◌, ◌≤◌, ◌≢◌, ◌⊎◌, inl, inr, ⊎_elim}
use Rattle.std.proofs.Common.{nat_lt, List, [], ◌∷◌, ◌++◌, length, refl, sym, ap, ◌∙◌, subst, arith}
use Rattle.std.proofs.Common.{append_assoc, length-append, le_refl}
use Rattle.std.proofs.lemmas.Bool.Decides.{nat_tests}
use mathlib.Core.Logic.{dite}
use native.Mathlib.Decide.{ℕ_discrete, dec_lt}
use Rattle.std.specs.List.{range_with_len}
use mathlib.Core.List.{IsPrefix}
use Rattle.turn_lock.specs.Places.{In, NoneInCommon, Ascends, insert, merged, longer, IsPlaced}
use Rattle.turn_lock.specs.Places.{places_after}
use Rattle.turn_lock.proofs.Trees.{chosen}

-- ---- beginnings
module _ {A : Type 0} where
  pub prefix_self : (xs : List A) → IsPrefix xs xs
  prefix_self [] = ([], refl)
  prefix_self (x ∷ xs) = let r = prefix_self xs in (r.0, ap (λ ys. x ∷ ys) r.1)

  pub prefix_trans : (xs ys zs : List A) → IsPrefix xs ys → IsPrefix ys zs → IsPrefix xs zs
  prefix_trans xs ys zs p q = (
    p.0 ++ q.0,
    sym (append_assoc xs p.0 q.0)
        ∙ (ap (λ w. w ++ q.0) p.1 ∙ q.1),
  )

  -- of two beginnings of one list the shorter begins the longer
  pub prefix_shorter : (xs ys zs : List A) → IsPrefix xs zs → IsPrefix ys zs → length xs ≤ length ys
      → IsPrefix xs ys
  prefix_shorter [] ys zs p q le = (ys, refl)
  prefix_shorter (x ∷ xs) [] zs p q le = absurd (omega arith)
  prefix_shorter (x ∷ xs) (y ∷ ys) [] p q le = absurd (cc (p.1))
  prefix_shorter (x ∷ xs) (y ∷ ys) (z ∷ zs) p q le =
      let heads : x ≡ y = cc (p.1, q.1) in
      let rest = prefix_shorter xs ys zs (p.0, cc (p.1)) (q.0, cc (q.1)) (omega arith) in
      (rest.0, cc (heads, rest.1))

  pub prefix_length : (xs ys : List A) → IsPrefix xs ys → length xs ≤ length ys
  prefix_length xs ys p = omega (arith, sym (ap length p.1) ∙ length-append xs p.0)

  -- the longer of two beginnings of one list is one too, and both are beginnings of it
  pub longer_of : (xs ys zs : List A) → IsPrefix xs zs → IsPrefix ys zs → IsPrefix (longer xs ys) zs
      × IsPrefix xs (longer xs ys) × IsPrefix ys (longer xs ys)
  longer_of xs ys zs p q =
      chosen (λ (l : List A). IsPrefix l zs × IsPrefix xs l × IsPrefix ys l)
      (nat_lt (length xs) (length ys)) ys xs
      (λ e. (q, prefix_shorter xs ys zs p q (grind (arith, nat_tests)), prefix_self ys))
      (λ e. (p, prefix_self xs, prefix_shorter ys xs zs q p (grind (arith, nat_tests))))

-- ---- places
pub in_append : (k : ℕ) (xs ys : List ℕ) → In k (xs ++ ys) → In k xs ⊎ In k ys
in_append k [] ys h = inr h
in_append k (x ∷ xs) ys (inl e) = inl (inl e)
in_append k (x ∷ xs) ys (inr h) = ⊎_elim (λ (l : In k xs). inl (inr l)) (λ (l : In k ys). inr l)
    (in_append k xs ys h)

pub in_front : (k : ℕ) (xs ys : List ℕ) → In k xs → In k (xs ++ ys)
in_front k [] ys h = absurd h
in_front k (x ∷ xs) ys (inl e) = inl e
in_front k (x ∷ xs) ys (inr h) = inr (in_front k xs ys h)

pub in_back : (k : ℕ) (xs ys : List ℕ) → In k ys → In k (xs ++ ys)
in_back k [] ys h = h
in_back k (x ∷ xs) ys h = inr (in_back k xs ys h)

pub wider : (low high low' high' : ℕ) (xs : List ℕ) → low' ≤ low → high ≤ high'
    → Ascends low high xs → Ascends low' high' xs
wider low high low' high' [] l h a = tt
wider low high low' high' (x ∷ xs) l h a =
    let b = a.0 in
    let c = a.1.0 in (
      omega arith,
      (omega arith, wider (x + 1) high (x + 1) high' xs (le_refl (x + 1)) h a.1.1),
    )

pub within : (low high k : ℕ) (xs : List ℕ) → Ascends low high xs → In k xs → (low ≤ k) × (k < high)
within low high k [] a h = absurd h
within low high k (x ∷ xs) a (inl e) = let b = a.0 in let c = a.1.0 in (omega arith, omega arith)
within low high k (x ∷ xs) a (inr h) = let b = a.0 in let c = within (x + 1) high k xs a.1.1 h in
    (omega arith, c.1)

pub ascends_append : (low mid high : ℕ) (xs ys : List ℕ) → low ≤ mid → mid ≤ high
    → Ascends low mid xs → Ascends mid high ys → Ascends low high (xs ++ ys)
ascends_append low mid high [] ys l h a b = wider mid high low high ys l (le_refl high) b
ascends_append low mid high (x ∷ xs) ys l h a b =
    let c = a.1.0 in (
      a.0,
      (
        omega arith,
        ascends_append (x + 1) mid high xs ys (omega arith) h a.1.1
            b,
      ),
    )

pub row_ascends : (low n high : ℕ) → low + n ≤ high → Ascends low high (range_with_len low n)
row_ascends low zero high h = tt
row_ascends low (suc n) high h =
    (le_refl low, (omega arith, row_ascends (low + 1) n high (omega arith)))

same_or_above : (k low : ℕ) → low ≤ k → (k ≡ low) ⊎ (low + 1 ≤ k)
same_or_above k low h = dite (ℕ_discrete k low) (λ e. inl e) (λ ne. inr (omega arith))

pub in_row : (k low n : ℕ) → low ≤ k → k < low + n → In k (range_with_len low n)
in_row k low zero h l = absurd (omega arith)
in_row k low (suc n) h l =
    ⊎_elim (λ (e : k ≡ low). inl e)
    (λ (e : low + 1 ≤ k). inr (in_row k (low + 1) n e (omega arith))) (same_or_above k low h)

-- a list that ascends and has each place from `low` to `high` is the row of them
pub all_places : (low n high : ℕ) (xs : List ℕ) → high ≡ low + n → Ascends low high xs
    → ((k : ℕ) → low ≤ k → k < high → In k xs) → xs ≡ range_with_len low n
all_places low zero high [] e a h = refl
all_places low zero high (x ∷ xs) e a h = let b = a.0 in let c = a.1.0 in absurd (omega arith)
all_places low (suc n) high [] e a h = absurd (h low (le_refl low) (omega arith))
all_places low (suc n) high (x ∷ xs) e a h =
    let b = a.0 in
    let here : low ≡ x =
    ⊎_elim (λ (i : low ≡ x). i) (λ (i : In low xs). let c = within (x + 1) high low xs a.1.1 i in
    absurd (omega arith)) (h low (le_refl low) (omega arith)) in
    let rest : xs ≡ range_with_len (low + 1) n = all_places (low + 1) n high xs (omega arith)
    (subst (λ (k : ℕ). Ascends (k + 1) high xs) (sym here) a.1.1)
    (λ k l m. ⊎_elim (λ (i : k ≡ x). absurd (omega arith)) (λ (i : In k xs). i)
    (h k (omega arith) m)) in
    cc

-- ---- places put into a list
in_insert : (k j : ℕ) (xs : List ℕ) → In k (insert j xs) → (k ≡ j) ⊎ In k xs
in_insert k j [] = λ h. h
in_insert k j (x ∷ xs) =
    chosen (λ (l : List ℕ). In k l → (k ≡ j) ⊎ In k (x ∷ xs)) (nat_lt j x) (j ∷ x ∷ xs)
    (x ∷ insert j xs) (λ _ h. h)
    (λ _. ⊎_elim (λ (e : k ≡ x). inr (inl e))
    (λ (h : In k (insert j xs)). ⊎_elim (λ (e : k ≡ j). inl e) (λ (i : In k xs). inr (inr i))
    (in_insert k j xs h)))

insert_in : (k j : ℕ) (xs : List ℕ) → (k ≡ j) ⊎ In k xs → In k (insert j xs)
insert_in k j [] h = h
insert_in k j (x ∷ xs) h =
    chosen (λ (l : List ℕ). In k l) (nat_lt j x) (j ∷ x ∷ xs) (x ∷ insert j xs) (λ _. h)
    (λ _. ⊎_elim (λ (e : k ≡ j). inr (insert_in k j xs (inl e)))
    (⊎_elim (λ (e : k ≡ x). inl e) (λ (i : In k xs). inr (insert_in k j xs (inr i)))) h)

insert_ascends : (low high j : ℕ) (xs : List ℕ) → Ascends low high xs → low ≤ j → j < high
    → ¬ In j xs → Ascends low high (insert j xs)
insert_ascends low high j [] a l h out = (l, (h, tt))
insert_ascends low high j (x ∷ xs) a l h out =
    let b = a.0 in
    let c = a.1.0 in
    chosen (λ (ys : List ℕ). Ascends low high ys) (nat_lt j x) (j ∷ x ∷ xs) (x ∷ insert j xs)
    (λ e. let less : j < x = grind (arith, nat_tests) in (l, (h, (omega arith, (c, a.1.1)))))
    (λ e. let more : x ≤ j = grind (arith, nat_tests) in
    let other : j ≢ x = λ i. out (inl i) in
    (b, (c, insert_ascends (x + 1) high j xs a.1.1 (omega arith) h (λ i. out (inr i)))))

pub in_merged : (k : ℕ) (xs ys : List ℕ) → In k (merged xs ys) → In k xs ⊎ In k ys
in_merged k [] ys h = inr h
in_merged k (x ∷ xs) ys h =
    ⊎_elim (λ (e : k ≡ x). inl (inl e))
    (λ (i : In k (merged xs ys)). ⊎_elim (λ (l : In k xs). inl (inr l)) (λ (r : In k ys). inr r)
    (in_merged k xs ys i)) (in_insert k x (merged xs ys) h)

pub merged_in : (k : ℕ) (xs ys : List ℕ) → In k xs ⊎ In k ys → In k (merged xs ys)
merged_in k [] ys h = ⊎_elim (λ (l : In k []). absurd l) (λ (r : In k ys). r) h
merged_in k (x ∷ xs) ys h =
    insert_in k x (merged xs ys)
    (⊎_elim (⊎_elim (λ (e : k ≡ x). inl e) (λ (l : In k xs). inr (merged_in k xs ys (inl l))))
    (λ (r : In k ys). inr (merged_in k xs ys (inr r))) h)

pub merged_ascends : (low high : ℕ) (xs ys : List ℕ) → Ascends low high xs → Ascends low high ys
    → NoneInCommon xs ys → Ascends low high (merged xs ys)
merged_ascends low high [] ys a b none = b
merged_ascends low high (x ∷ xs) ys a b none =
    let c = a.0 in
    let rest : Ascends low high xs = wider (x + 1) high low high xs (omega arith) (le_refl high)
    a.1.1 in
    insert_ascends low high x (merged xs ys)
    (merged_ascends low high xs ys rest b (λ k i j. none k (inr i) j)) c a.1.0
    (λ i. ⊎_elim (λ (l : In x xs). let d = within (x + 1) high x xs a.1.1 l in absurd (omega arith))
    (λ (r : In x ys). none x (inl refl) r) (in_merged x xs ys i))

-- nothing is merged into a list
pub merged_none : (xs : List ℕ) (high low : ℕ) → Ascends low high xs → merged xs [] ≡ xs
merged_none [] high low a = refl
merged_none (x ∷ xs) high low a = ap (insert x) (merged_none xs high (x + 1) a.1.1)
    ∙ first_inserted x xs high a.1.1
  where
    first_inserted : (x : ℕ) (xs : List ℕ) (high : ℕ) → Ascends (x + 1) high xs
        → insert x xs ≡ x ∷ xs
    first_inserted x [] high a = refl
    first_inserted x (y ∷ ys) high a =
        let b = a.0 in
        chosen (λ (l : List ℕ). l ≡ x ∷ y ∷ ys) (nat_lt x y) (x ∷ y ∷ ys) (y ∷ insert x ys)
        (λ _. refl) (λ e. let more : y ≤ x = grind (arith, nat_tests) in absurd (omega arith))

-- ---- what a turn appended
module _ {E : Type 0} where
  pub placed_longer : (seen after : List E) (own : List ℕ) → IsPrefix seen after → IsPlaced seen own
      → IsPlaced after own
  placed_longer seen after own p a = wider 0 (length seen) 0 (length after) own (le_refl 0)
      (prefix_length seen after p) a

  -- the places that a turn appended are places of the list that it left, behind all that was seen
  pub placed_after : (seen before after : List E) (own : List ℕ) → IsPrefix seen before
      → IsPrefix before after → IsPlaced seen own → IsPlaced after
      (own ++ places_after before after)
  placed_after seen before after own p q a =
      let l = prefix_length seen before p in
      let m = prefix_length before after q in
      let n : ℕ = length after - length before in
      ascends_append 0 (length before) (length after) own (range_with_len (length before) n)
      (omega arith) m (placed_longer seen before own p a)
      (row_ascends (length before) n (length after) (omega arith))

  -- a place of a list that was there before stands below its beginning's length, or was appended
  pub appended_or_before : (before after : List E) (k : ℕ) → k < length after → (k < length before)
      ⊎ In k (places_after before after)
  appended_or_before before after k h =
      dite (dec_lt k (length before)) (λ l. inl l)
      (λ l. inr (in_row k (length before) (length after - length before) (omega arith)
      (omega arith)))

  appended_behind : (before after : List E) (k : ℕ) → In k (places_after before after)
      → length before ≤ k
  appended_behind before after k h =
      let n : ℕ = length after - length before in
      let w = within (length before) (length before + n) k (range_with_len (length before) n)
      (row_ascends (length before) n (length before + n) (le_refl (length before + n))) h in w.0

  -- who has seen no more than the beginning has none of the places that were appended
  pub none_appended : (seen before after : List E) (own : List ℕ) (k : ℕ) → IsPrefix seen before
      → IsPlaced seen own → In k (places_after before after) → In k own → ⊥
  none_appended seen before after own k p a h i =
      let b = appended_behind before after k h in
      let c = within 0 (length seen) k own a i in
      let d = prefix_length seen before p in absurd (omega arith)

  pub places_beyond : (before after : List E) (k : ℕ)
      → In k (places_after before after) → (length before ≤ k) × (k < length after)
  places_beyond before after k h =
      let n : ℕ = length after - length before in
      let w = within (length before) (length before + n) k (range_with_len (length before) n)
      (row_ascends (length before) n (length before + n) (le_refl (length before + n))) h in
      let a = w.0 in
      let b = w.1 in (a, omega arith)

  pub beyond_places : (before after : List E) (k : ℕ)
      → length before ≤ k → k < length after → In k (places_after before after)
  beyond_places before after k a b =
      in_row k (length before) (length after - length before) a (omega arith)
