-- Rows that are joined into one row, and what they have together.
use Rattle.std.specs.Prelude.{◌≡◌, ◌<◌, ◌≤◌, ◌+◌, ℕ, List, [], ◌∷◌, length, slice_get, Option, Some}
use Rattle.std.specs.Prelude.{None}
use Rattle.std.specs.Prelude.{IfSome, option_map, sum_by, nat_eq, if◌then◌else◌}
use mathlib.Core.List.{IsPrefix}
use Rattle.turn_lock.specs.declared.view.View.{View}
use Rattle.turn_lock.specs.Parts.{Tree, Whole, Empty, union}
use Rattle.turn_lock.specs.Places.{NoneInCommon}
use Rattle.turn_lock.specs.Views.{joined_view, kept_view, split_view}
use Rattle.place_rows.specs.Lists.{Every}
use Rattle.place_rows.specs.Rows.{HasTurned}

-- ---- at one place

-- 1 for this place, and 0 for others: the sum of it is how often the place is among them
abbrev pub is_place : ℕ → ℕ → ℕ
is_place i k = if nat_eq k i then 1 else 0

module _ {E S : Type 0} where
  -- what a row has seen there
  abbrev pub seen_at : ℕ → List (View E S) → Option (List E)
  seen_at k known = option_map (λ (v : View E S). v.seen) (slice_get known k)

  -- what it has seen there begins this list
  abbrev pub Begins : ℕ → List E → List (View E S) → Type 0
  Begins k list known = IfSome (seen_at k known) (λ seen. IsPrefix seen list)

  -- a sum over the places of its own entries there
  abbrev pub own_sum : (ℕ → ℕ) → Option (View E S) → ℕ
  own_sum f None = 0
  own_sum f (Some v) = sum_by f v.own

  abbrev pub own_at : (ℕ → ℕ) → ℕ → List (View E S) → ℕ
  own_at f k known = own_sum f (slice_get known k)

  -- its part of the lock there
  abbrev pub part_in : Option (View E S) → Tree
  part_in None = Empty
  part_in (Some v) = v.part

  -- the parts of several rows there put together, from the first row on, beside this part
  abbrev pub together_at : ℕ → Tree → List (List (View E S)) → Tree
  together_at k t [] = t
  together_at k t (known ∷ rows) = together_at k (union t (part_in (slice_get known k))) rows

  -- several rows have together the whole of the lock of each of so many places
  abbrev pub AreWhole : ℕ → List (List (View E S)) → Type 0
  AreWhole places rows = (k : ℕ) → k < places → together_at k Empty rows ≡ Whole

  -- ---- joining

  -- one pass, joined into another: one of their two lists begins the other, and no entry is of both
  pub record Joins (from into after : View E S) : Type 0 where
    pub is : after ≡ joined_view into from
    pub first : IsPrefix into.seen after.seen
    pub second : IsPrefix from.seen after.seen
    pub apart : NoneInCommon into.own from.own

  -- a pass, split off another
  pub record Splits (made before after : View E S) : Type 0 where
    pub kept : after ≡ kept_view before
    pub split : made ≡ split_view before

  -- the passes of a row, from place n on, joined into those of another
  pub record RowJoined (n : ℕ) (intos froms afters : List (View E S)) : Type 0 where
    pub done : (k : ℕ) (v w : View E S) → n ≤ k → slice_get intos k ≡ Some v →
        slice_get froms k ≡ Some w → HasTurned v afters k (Joins w)
    pub rest : (k : ℕ) → k < n → slice_get afters k ≡ slice_get intos k
    pub both : length froms ≡ length intos
    pub as_many : length afters ≡ length intos

  -- the passes of one place of several rows, joined into one
  pub record JoinedAt (k : ℕ) (rows : List (List (View E S))) (into after : View E S) : Type 0 where
    pub part : after.part ≡ together_at k into.part rows
    pub own : (f : ℕ → ℕ) → sum_by f after.own ≡ sum_by f into.own + sum_by (own_at f k) rows
    pub first : IsPrefix into.seen after.seen
    pub begins : Every (Begins k after.seen) rows

  -- several rows, joined into one
  pub record AllJoined (rows : List (List (View E S))) (intos afters : List (View E S)) : Type 0
    where
      pub rows_are : Every (λ known. length known ≡ length intos) rows
      pub each : (k : ℕ) (v : View E S) → slice_get intos k ≡ Some v →
          HasTurned v afters k (JoinedAt k rows)
      pub as_many : length afters ≡ length intos
