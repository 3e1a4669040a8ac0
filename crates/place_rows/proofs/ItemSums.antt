-- Items at places of lists, weighed and put together.
use Rattle.std.proofs.Common.{◌≡◌, ◌≤◌, ◌+◌, ◌-◌, ℕ, List, [], ◌∷◌, ◌++◌, length, refl, sym, ap}
use Rattle.std.proofs.Common.{◌∙◌, arith, append-nil, append_assoc, inl, inr}
use Rattle.std.specs.Prelude.{slice_get, Option, option_to_list, sum_by, flat_map, nat_lt}
use Rattle.std.specs.List.{range_with_len}
use Rattle.std.proofs.lemmas.List.{length-append}
use Rattle.std.proofs.lemmas.List.Sums.{sum_by-append, sum_by-cons}
use Rattle.std.proofs.lemmas.Bool.{cases_Bool}
use Rattle.turn_lock.specs.Places.{Ascends, places_after, insert, merged}
use Rattle.turn_lock.specs.Views.{HasSeenOwn}
use Rattle.histories.specs.declared.entry.Entry.{Entry}
use Rattle.histories.specs.Moves.{moves_after, move_after}
use Rattle.locked_place.specs.Points.{points_after, point_after}
use Rattle.locked_place.specs.Turns.{IsTurn}
use Rattle.place_rows.specs.Rows.{Known}
use Rattle.place_rows.specs.Shares.{at_places}
use Rattle.place_rows.proofs.Lists.{get_longer, get_seam}

-- ---- items at places

module _ {A : Type 0} where
  pub at_append : (xs : List A) (ks js : List ℕ) →
      at_places xs (ks ++ js) ≡ at_places xs ks ++ at_places xs js
  at_append xs [] js = refl
  at_append xs (k ∷ ks) js =
      ap (λ (ys : List A). option_to_list (slice_get xs k) ++ ys) (at_append xs ks js)
      ∙ sym (append_assoc (option_to_list (slice_get xs k)) (at_places xs ks) (at_places xs js))

  -- a longer list changes nothing at places of the shorter one
  pub at_longer : (xs ys : List A) (low n : ℕ) (ks : List ℕ) → Ascends low n ks →
      n ≤ length xs → at_places (xs ++ ys) ks ≡ at_places xs ks
  at_longer xs ys low n [] a most = refl
  at_longer xs ys low n (k ∷ ks) a most =
      ap (λ (o : Option A). option_to_list o ++ at_places (xs ++ ys) ks)
      (get_longer xs ys k (omega (arith, a.1.0, most)))
      ∙ ap (λ (zs : List A). option_to_list (slice_get xs k) ++ zs)
      (at_longer xs ys (k + 1) n ks a.1.1 most)

  -- the places of a list behind another are its items
  pub at_range : (xs ys : List A) (n : ℕ) → n ≡ length xs →
      at_places (xs ++ ys) (range_with_len n (length ys)) ≡ ys
  at_range xs [] n is = refl
  at_range xs (y ∷ ys) n is =
      ap (λ (o : Option A). option_to_list o
      ++ at_places (xs ++ y ∷ ys) (range_with_len (n + 1) (length ys)))
      (ap (slice_get (xs ++ y ∷ ys)) is ∙ get_seam xs y ys)
      ∙ ap (λ (zs : List A). y ∷ zs)
      (ap (λ (l : List A). at_places l (range_with_len (n + 1) (length ys)))
      (sym (append_assoc xs (y ∷ []) ys))
      ∙ at_range (xs ++ y ∷ []) ys (n + 1) (omega (arith, is, length-append xs (y ∷ []))))

  -- all places of a list
  pub at_all : (xs : List A) → at_places xs (range_with_len 0 (length xs)) ≡ xs
  at_all xs = at_range [] xs 0 refl

pub sum_flat : {A B : Type 0} (f : B → ℕ) (h : A → List B) (xs : List A) →
    sum_by f (flat_map h xs) ≡ sum_by (λ x. sum_by f (h x)) xs
sum_flat f h [] = refl
sum_flat f h (x ∷ xs) =
    omega (
      arith,
      sum_by-append f (h x) (flat_map h xs),
      sum_flat f h xs,
      sum_by-cons (λ y. sum_by f (h y)) x xs,
    )

-- ---- the places of two passes in one

module _ {A : Type 0} (f : A → ℕ) (xs : List A) where
  abbrev weigh : List ℕ → ℕ
  weigh ks = sum_by f (at_places xs ks)

  one_more : (k : ℕ) (ks : List ℕ) → weigh (k ∷ ks) ≡ weigh (k ∷ []) + weigh ks
  one_more k ks =
      omega (
        arith,
        sum_by-append f (option_to_list (slice_get xs k)) (at_places xs ks),
        sum_by-append f (option_to_list (slice_get xs k)) [],
      )

  insert_weighs : (k : ℕ) (ks : List ℕ) → weigh (insert k ks) ≡ weigh (k ∷ []) + weigh ks
  insert_weighs k [] = one_more k []
  insert_weighs k (j ∷ ks) =
      elim (cases_Bool (nat_lt k j)) [
        | inl h ↦ rw h (one_more k (j ∷ ks))
        | inr h ↦ rw h
            (omega (arith, one_more j (insert k ks), insert_weighs k ks, one_more j ks))
      ]

  pub merged_weighs : (ks js : List ℕ) →
      sum_by f (at_places xs (merged ks js))
      ≡ sum_by f (at_places xs ks) + sum_by f (at_places xs js)
  merged_weighs [] js = omega arith
  merged_weighs (k ∷ ks) js =
      omega (arith, insert_weighs k (merged ks js), merged_weighs ks js, one_more k ks)

-- ---- lists that are told entry by entry

module _ {X : Type 0} (one : List Entry → Entry → X) (all : List Entry → List Entry → List X)
    (none : (before : List Entry) → all before [] ≡ [])
    (first : (before : List Entry) (e : Entry) (es : List Entry) →
    all before (e ∷ es) ≡ one before e ∷ all (before ++ e ∷ []) es) where
  all_longer : (before es fs : List Entry) →
      all before (es ++ fs) ≡ all before es ++ all (before ++ es) fs
  all_longer before [] fs =
      ap (λ (b : List Entry). all b fs) (sym (append-nil before))
      ∙ ap (λ (xs : List X). xs ++ all (before ++ []) fs) (sym (none before))
  all_longer before (e ∷ es) fs =
      first before e (es ++ fs)
      ∙ ap (λ (xs : List X). one before e ∷ xs)
      (all_longer (before ++ e ∷ []) es fs
      ∙ ap (λ (b : List Entry). all (before ++ e ∷ []) es ++ all b fs)
      (append_assoc before (e ∷ []) es))
      ∙ ap (λ (xs : List X). xs ++ all (before ++ e ∷ es) fs) (sym (first before e es))

  all_long : (before es : List Entry) → length (all before es) ≡ length es
  all_long before [] = ap length (none before)
  all_long before (e ∷ es) =
      omega (arith, ap length (first before e es), all_long (before ++ e ∷ []) es)

-- moves of longer lists
pub moves_longer : (before es fs : List Entry) →
    moves_after before (es ++ fs) ≡ moves_after before es ++ moves_after (before ++ es) fs
moves_longer = all_longer move_after moves_after (λ before. refl) (λ before e es. refl)

pub moves_long : (before es : List Entry) → length (moves_after before es) ≡ length es
moves_long = all_long move_after moves_after (λ before. refl) (λ before e es. refl)

-- points of longer lists
pub points_longer : (before es fs : List Entry) →
    points_after before (es ++ fs) ≡ points_after before es ++ points_after (before ++ es) fs
points_longer = all_longer point_after points_after (λ before. refl) (λ before e es. refl)

pub points_long : (before es : List Entry) → length (points_after before es) ≡ length es
points_long = all_long point_after points_after (λ before. refl) (λ before e es. refl)

module _ {X : Type 0} (tell : List Entry → List Entry → List X)
    (longer : (before es fs : List Entry) →
    tell before (es ++ fs) ≡ tell before es ++ tell (before ++ es) fs)
    (long : (before es : List Entry) → length (tell before es) ≡ length es) where
  -- what a pass's own entries tell
  abbrev own_told : Known → List X
  own_told v = at_places (tell [] v.seen) v.own

  -- a turn that appends these
  pub own_after : (v w : Known) (found fs : List Entry) → HasSeenOwn v →
      IsTurn v found (found ++ fs) w →
      at_places (tell [] w.seen) w.own ≡ at_places (tell [] v.seen) v.own ++ tell found fs
  own_after v w found fs placed turn =
      ap own_told turn.left
      ∙ ap (λ (xs : List X). at_places xs (v.own ++ places_after found (found ++ fs)))
      (longer [] found fs)
      ∙ at_append (tell [] found ++ tell found fs) v.own (places_after found (found ++ fs))
      ∙ ap (λ (xs : List X). xs ++ at_places (tell [] found ++ tell found fs)
      (places_after found (found ++ fs))) old
      ∙ ap (λ (xs : List X). own_told v ++ xs) new
    where
      old : at_places (tell [] found ++ tell found fs) v.own ≡ own_told v
      old =
          let more = turn.begins in
          let split : tell [] found ≡ tell [] v.seen ++ tell v.seen more.0 =
          ap (λ (es : List Entry). tell [] es) (sym more.1) ∙ longer [] v.seen more.0 in
          ap (λ (xs : List X). at_places (xs ++ tell found fs) v.own) split
          ∙ ap (λ (xs : List X). at_places xs v.own)
          (append_assoc (tell [] v.seen) (tell v.seen more.0) (tell found fs))
          ∙ at_longer (tell [] v.seen) (tell v.seen more.0 ++ tell found fs) 0
          (length v.seen) v.own placed (omega (arith, long [] v.seen))

      count : length (found ++ fs) - length found ≡ length (tell found fs)
      count = omega (arith, length-append found fs, long found fs)

      new : at_places (tell [] found ++ tell found fs) (places_after found (found ++ fs))
          ≡ tell found fs
      new =
          ap (λ n. at_places (tell [] found ++ tell found fs)
          (range_with_len (length found) n)) count
          ∙ at_range (tell [] found) (tell found fs) (length found) (sym (long [] found))
