-- What each pass has of its own in a segment, the segment has.
use Rattle.std.proofs.Common.{◌++◌, ◌+◌, ◌<◌, ◌∙◌, ◌∷◌, ◌≡◌, Bool, List, None, Option, Some, [], ap}
use Rattle.std.proofs.Common.{arith, length, refl, subst, suc, sym, true, zero, ℕ}
use Rattle.std.specs.Prelude.{slice_get}
use Rattle.histories.specs.declared.entry.Entry.{Entry}
use Rattle.live_runs.specs.ClosedPlanes.{AreOwned}
use Rattle.live_runs.specs.Seen.{EachIs, Ours, OursAre, Seen, entries}
use Rattle.live_runs.specs.Stages.{IsSegment}
use Rattle.live_runs.proofs.OwnInWhole.{each_by_index, ours_at}

module _ {A : Type 0} where
  pub behind_front : (xs ys : List A) (i : ℕ) → slice_get (xs ++ ys) (length xs + i)
      ≡ slice_get ys i
  behind_front [] ys i = let n : 0 + i ≡ i = omega arith in ap (slice_get ys) n
  behind_front (x ∷ xs) ys i =
      let n : suc (length xs) + i ≡ suc (length xs + i) = omega arith in
      ap (slice_get (x ∷ (xs ++ ys))) n ∙ behind_front xs ys i

  pub in_front : (xs ys : List A) (i : ℕ) → i < length xs →
      slice_get (xs ++ ys) i ≡ slice_get xs i
  in_front [] ys i less = absurd (omega (arith, less))
  in_front (x ∷ xs) ys zero less = refl
  in_front (x ∷ xs) ys (suc i) less =
      let so : suc i < suc (length xs) = less in in_front xs ys i (omega (arith, so))

  pub within : (xs : List A) (i : ℕ) (x : A) → slice_get xs i ≡ Some x → i < length xs
  within [] i x is = absurd (none is)
    where
      none : None ≡ Some x → ⊥
      none is = subst by is tt
        where
          by : Option A → Type 0
          by None = Unit {0}
          by (Some x) = ⊥
  within (y ∷ xs) zero x is = let so : 0 < suc (length xs) = omega arith in so
  within (y ∷ xs) (suc i) x is =
      let less = within xs i x is in
      let so : suc i < suc (length xs) = omega (arith, less) in so

pub entries_length : (xs : List Seen) → length (entries xs) ≡ length xs
entries_length [] = refl
entries_length (x ∷ xs) =
    let less = entries_length xs in
    let so : suc (length (entries xs)) ≡ suc (length xs) = omega (arith, less) in so

module _ (count : ℕ → Bool) (old new : ℕ → List Seen) (before segment : List Entry)
    (s : IsSegment count old new before segment)
    (o : AreOwned count new (before ++ segment)) where
  pub old_long : (p : ℕ) → count p ≡ true → length (old p) ≡ length before
  old_long p below = sym (entries_length (old p)) ∙ ap length (s.was p below)

  -- the front was owned before
  pub front_owned : AreOwned count old before
  front_owned = record {
    owned = λ i e is.
        let less = within before i e is in
        let found = o.owned i e (in_front before segment i less ∙ is) in
        (found.0, found.1, here found.0 found.1 i e (less_old found.0 found.1 i less) found.2);
  }
    where
      less_old : (p : ℕ) → count p ≡ true → (i : ℕ) → i < length before → i < length (old p)
      less_old p below i less = let long = old_long p below in omega (arith, less, long)

      here : (p : ℕ) → count p ≡ true → (i : ℕ) (e : Entry) → i < length (old p) →
          slice_get (new p) i ≡ Some (Ours e) → slice_get (old p) i ≡ Some (Ours e)
      here p below i e less is = sym (in_front (old p) (s.more p) i less)
          ∙ ap (λ xs. slice_get xs i) (sym (s.is p below)) ∙ is

  -- and what is new is what each one's own is
  pub segment_is : (Q : Entry → Type 0) → ((p : ℕ) → count p ≡ true → OursAre Q (s.more p)) →
      EachIs Q segment
  segment_is Q ours = each_by_index Q segment (λ i e is.
      let found = o.owned (length before + i) e (behind_front before segment i ∙ is) in
      ours_at Q (s.more found.0) (ours found.0 found.1) i e
      (there found.0 found.1 i e found.2))
    where
      there : (p : ℕ) → count p ≡ true → (i : ℕ) (e : Entry) →
          slice_get (new p) (length before + i) ≡ Some (Ours e) →
          slice_get (s.more p) i ≡ Some (Ours e)
      there p below i e is =
          sym (behind_front (old p) (s.more p) i)
          ∙ ap (λ n. slice_get (old p ++ s.more p) (n + i)) (old_long p below)
          ∙ ap (λ xs. slice_get xs (length before + i)) (sym (s.is p below)) ∙ is

  -- and each entry of the segment is some pass's own
  pub segment_owned : AreOwned count s.more segment
  segment_owned = record {
    owned = λ i e is.
        let found = o.owned (length before + i) e (behind_front before segment i ∙ is) in
        (found.0, found.1, there found.0 found.1 i e found.2);
  }
    where
      there : (p : ℕ) → count p ≡ true → (i : ℕ) (e : Entry) →
          slice_get (new p) (length before + i) ≡ Some (Ours e) →
          slice_get (s.more p) i ≡ Some (Ours e)
      there p below i e is =
          sym (behind_front (old p) (s.more p) i)
          ∙ ap (λ n. slice_get (old p ++ s.more p) (n + i))
          (old_long p below)
          ∙ ap (λ xs. slice_get xs (length before + i)) (sym (s.is p below)) ∙ is
