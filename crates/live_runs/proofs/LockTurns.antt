-- A turn of the lock is a turn in the list of marked entries.
use Rattle.std.proofs.Common.{◌++◌, ◌+◌, ◌-◌, ◌<◌, ◌∙◌, ◌∷◌, ◌≡◌, ◌≤◌, ◌⊎◌, Bool, List, [], ap}
use Rattle.std.proofs.Common.{arith, false, inl, inr, length, refl, suc, true, zero, ℕ}
use Rattle.std.proofs.lemmas.Bool.{ne_eqb}
use Rattle.std.proofs.lemmas.Bool.Decides.{nat_tests}
use Rattle.std.proofs.lemmas.List.{length-append}
use Rattle.std.proofs.lemmas.List.Folds.{list_any-append}
use Rattle.std.specs.List.{range_with_len}
use Rattle.std.specs.Prelude.{◌==◌, ◌||◌, if◌then◌else◌, nat_eq}
use Rattle.histories.specs.declared.entry.Entry.{Entry}
use Rattle.live_runs.specs.Calls.{IsTurn}
use Rattle.live_runs.specs.Locks.{is_in, marked, marked_from}
use Rattle.live_runs.specs.Seen.{Ours, Theirs, all_ours, all_theirs}
use Rattle.turn_lock.specs.Places.{Ascends, places_after}

marked_append : (own : ℕ → Bool) (at : ℕ) (xs ys : List Entry) →
    marked_from own at (xs ++ ys) ≡ marked_from own at xs ++ marked_from own (at + length xs) ys
marked_append own at [] ys = let n : at ≡ at + 0 = omega arith in ap (λ k. marked_from own k ys) n
marked_append own at (x ∷ xs) ys =
    let n : (at + 1) + length xs ≡ at + suc (length xs) = omega arith in
    ap (λ zs. (if own at then Ours x else Theirs x) ∷ zs)
    (marked_append own (at + 1) xs ys
    ∙ ap (λ k. marked_from own (at + 1) xs ++ marked_from own k ys) n)

marked_alike : (f g : ℕ → Bool) (at : ℕ) (xs : List Entry) →
    ((i : ℕ) → at ≤ i → i < at + length xs → f i ≡ g i) → marked_from f at xs ≡ marked_from g at xs
marked_alike f g at [] same = refl
marked_alike f g at (x ∷ xs) same =
    let n : at < at + suc (length xs) = omega arith in
    ap (λ b. (if b then Ours x else Theirs x) ∷ marked_from f (at + 1) xs) (same at (omega arith) n)
    ∙ ap (λ zs. (if g at then Ours x else Theirs x) ∷ zs)
    (marked_alike f g (at + 1) xs (λ i least most.
    same i (omega (arith, least)) (let m : i < at + suc (length xs) = omega (arith, most) in m)))

marked_none : (at : ℕ) (xs : List Entry) → marked_from (λ i. false) at xs ≡ all_theirs xs
marked_none at [] = refl
marked_none at (x ∷ xs) = ap (λ zs. Theirs x ∷ zs) (marked_none (at + 1) xs)

marked_all : (at : ℕ) (xs : List Entry) → marked_from (λ i. true) at xs ≡ all_ours xs
marked_all at [] = refl
marked_all at (x ∷ xs) = ap (λ zs. Ours x ∷ zs) (marked_all (at + 1) xs)

-- places are where they may be
beyond : (low high : ℕ) (own : List ℕ) (i : ℕ) → Ascends low high own → high ≤ i →
    is_in own i ≡ false
beyond low high [] i are most = refl
beyond low high (x ∷ own) i are most =
    let less = are.1.0 in
    rw (ne_eqb i x (λ same. absurd (omega (arith, same, less, most))))
    (beyond (x + 1) high own i are.1.1 most)

out_of_row : (a n i : ℕ) → (i < a) ⊎ (a + n ≤ i) → is_in (range_with_len a n) i ≡ false
out_of_row a zero i out = refl
out_of_row a (suc n) i (inl less) =
    rw (ne_eqb i a (λ same. absurd (omega (arith, same, less))))
    (out_of_row (a + 1) n i (inl (omega (arith, less))))
out_of_row a (suc n) i (inr most) =
    rw (ne_eqb i a (λ same. absurd (omega (arith, same, most))))
    (out_of_row (a + 1) n i (inr (omega (arith, most))))

in_row : (a n i : ℕ) → a ≤ i → i < a + n → is_in (range_with_len a n) i ≡ true
in_row a zero i least most = absurd (omega (arith, least, most))
in_row a (suc n) i least most = by (i == a) refl
    (λ more. in_row (a + 1) n i more (omega (arith, most)))
  where
    next : (i == a) ≡ false → a + 1 ≤ i
    next not_it = grind (arith, least, not_it, nat_tests)

    by : (c : Bool) → (i == a) ≡ c → (a + 1 ≤ i → is_in (range_with_len (a + 1) n) i ≡ true) →
        (c || is_in (range_with_len (a + 1) n) i) ≡ true
    by true is on = refl
    by false is on = on (next is)

or_with : (b c : Bool) → b ≡ false → (b || c) ≡ c
or_with true c wrong = absurd (cc)
or_with false c is = refl

or_then : (b c : Bool) → c ≡ false → (b || c) ≡ b
or_then true c is = refl
or_then false c is = is

module _ (own : List ℕ) (seen others mine : List Entry)
    (placed : Ascends 0 (length seen) own) where
  -- the list that the turn finds, and the places of what it appends
  abbrev found : List Entry
  found = seen ++ others

  abbrev later : List ℕ
  later = own ++ places_after found (found ++ mine)

  long : length found ≡ length seen + length others
  long = length-append seen others

  many : length (found ++ mine) - length found ≡ length mine
  many = let so = length-append found mine in omega (arith, so)

  both : (i : ℕ) → is_in later i
      ≡ (is_in own i
      || is_in (range_with_len (length found) (length (found ++ mine) - length found)) i)
  both i = list_any-append (nat_eq i) own _

  here : (i : ℕ) → i < length seen → is_in later i ≡ is_in own i
  here i less = both i ∙ or_then (is_in own i) _ (out_of_row (length found) _ i
      (inl (omega (arith, less, long))))

  between : (i : ℕ) → length seen ≤ i → i < length found → is_in later i ≡ false
  between i least most = both i ∙ or_with (is_in own i) _ (beyond 0 (length seen) own i placed
      least)
      ∙ out_of_row (length found) _ i (inl most)

  there : (i : ℕ) → length found ≤ i → i < length found + length mine → is_in later i ≡ true
  there i least most = both i
      ∙ or_with (is_in own i) _ (beyond 0 (length seen) own i placed (omega (arith, least, long)))
      ∙ in_row (length found) _ i least (omega (arith, most, many))

  pub turn_of_lock : IsTurn others mine (marked own seen) (marked later (found ++ mine))
  turn_of_lock = record {
    is = marked_append (is_in later) 0 found mine
        ∙ ap (λ zs. zs ++ marked_from (is_in later) (0 + length found) mine)
        (marked_append (is_in later) 0 seen others)
        ∙ ap (λ zs. (zs ++ marked_from (is_in later) (0 + length seen) others)
        ++ marked_from (is_in later) (0 + length found) mine)
        (marked_alike (is_in later) (is_in own) 0 seen
        (λ i least most. here i (omega (arith, most))))
        ∙ ap (λ zs. (marked own seen ++ zs)
        ++ marked_from (is_in later) (0 + length found) mine)
        (marked_alike (is_in later) (λ i. false) (0 + length seen) others
        (λ i least most. between i (omega (arith, least)) (omega (arith, most, long)))
        ∙ marked_none (0 + length seen) others)
        ∙ ap (λ zs. (marked own seen ++ all_theirs others) ++ zs)
        (marked_alike (is_in later) (λ i. true) (0 + length found) mine
        (λ i least most. there i (omega (arith, least)) (omega (arith, most)))
        ∙ marked_all (0 + length found) mine);
  }

  -- a pass that has seen what another one had: nothing of it is its own
  pub seen_of_others : marked own found ≡ marked own seen ++ all_theirs others
  seen_of_others = marked_append (is_in own) 0 seen others
      ∙ ap (λ zs. marked own seen ++ zs)
      (marked_alike (is_in own) (λ i. false) (0 + length seen) others
      (λ i least most. beyond 0 (length seen) own i placed (omega (arith, least)))
      ∙ marked_none (0 + length seen) others)
