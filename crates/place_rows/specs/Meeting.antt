-- Rows that let each other see what they have seen.
use Rattle.std.specs.Prelude.{◌≡◌, ◌<◌, ◌≤◌, ℕ, List, ◌∷◌, length, slice_get, slice_set, Some, true}
use Rattle.std.specs.List.{AllZip}
use mathlib.Core.List.{IsPrefix}
use Rattle.turn_lock.specs.declared.view.View.{View}
use Rattle.turn_lock.specs.Parts.{Empty, union, cut, is_normal}
use Rattle.turn_lock.specs.Places.{longer}
use Rattle.turn_lock.specs.Views.{kept_view}
use Rattle.histories.specs.declared.entry.Entry.{Entry}
use Rattle.place_rows.specs.Lists.{Every, OneIs, EveryBelow}
use Rattle.place_rows.specs.Rows.{Known}
use Rattle.place_rows.specs.Shares.{sent_at}
use Rattle.place_rows.specs.Joining.{seen_at, Begins, together_at}

module _ {E S : Type 0} where
  -- One pass told another: the other has then seen the longer of their two lists, of which the
  -- other list is a beginning. Else both change only in how they share their parts of the lock.
  pub record Told (from into from_then into_then : View E S) : Type 0 where
    pub first : from_then ≡ kept_view from
    pub second : into_then ≡ record into {
      seen = longer into.seen from.seen;
      part = union into.part (cut from.part);
    }
    pub begins : IsPrefix from.seen into_then.seen
    pub behind : IsPrefix into.seen into_then.seen
    pub parts : union from_then.part into_then.part ≡ union from.part into.part
    pub normal : (is_normal from_then.part ≡ true) × (is_normal into_then.part ≡ true)

  -- of two rows, the passes with this number, of which one told the other
  pub record ToldAt (from into : View E S) (froms intos : List (View E S)) (k : ℕ) : Type 0 where
    pub from_then : View E S
    pub into_then : View E S
    pub from_at : slice_get froms k ≡ Some from_then
    pub into_at : slice_get intos k ≡ Some into_then
    pub told : Told from into from_then into_then

  -- one row told another at the places before place n, and nothing changed at the others
  pub record ToldUpTo (n : ℕ) (froms intos froms_then intos_then : List (View E S)) : Type 0 where
    pub done : (k : ℕ) (v w : View E S) → k < n → slice_get froms k ≡ Some v →
        slice_get intos k ≡ Some w → ToldAt v w froms_then intos_then k
    pub rest : (k : ℕ) → n ≤ k → slice_get froms_then k ≡ slice_get froms k
    pub others : (k : ℕ) → n ≤ k → slice_get intos_then k ≡ slice_get intos k
    pub both : length intos ≡ length froms
    pub as_many : length froms_then ≡ length froms
    pub others_many : length intos_then ≡ length intos

  -- one row told another at this place alone
  pub record TellsOne (place : ℕ) (froms intos froms_then intos_then : List (View E S)) : Type 0
    where
      pub from : View E S
      pub into : View E S
      pub from_then : View E S
      pub into_then : View E S
      pub from_had : slice_get froms place ≡ Some from
      pub into_had : slice_get intos place ≡ Some into
      pub from_has : froms_then ≡ slice_set froms place from_then
      pub into_has : intos_then ≡ slice_set intos place into_then
      pub told : Told from into from_then into_then

-- ---- several rows that meet

-- of a row, at most what it has seen and its parts have changed
pub record SharesAlone (old new : List Known) : Type 0 where
  pub as_many : length new ≡ length old
  pub each : (k : ℕ) (v w : Known) → slice_get old k ≡ Some v → slice_get new k ≡ Some w →
      w ≡ record v { seen = w.seen; part = w.part }

-- a pass that has the same own entries, which sent the same, at the same place
pub record KeepsOwn (old new : Known) : Type 0 where
  pub own : new.own ≡ old.own
  pub origin : new.origin ≡ old.origin
  pub sent : (port : ℕ) → sent_at port new ≡ sent_at port old

-- it has seen this list there
abbrev pub Sees : ℕ → List Entry → List Known → Type 0
Sees k list known = seen_at k known ≡ Some list

-- At this place each has then seen the longest list that one of them had seen there, of which the
-- others' lists are beginnings; and they have together the same part of the lock.
pub record MeetsAt (k : ℕ) (olds news : List (List Known)) : Type 0 where
  pub longest : List Entry
  pub among : OneIs (Sees k longest) olds
  pub behind : Every (Begins k longest) olds
  pub seen : Every (Sees k longest) news
  pub parts : together_at k Empty news ≡ together_at k Empty olds

-- Rows met, at each of so many places, and nothing else of them changed.
pub record HaveMet (places : ℕ) (olds news : List (List Known)) : Type 0 where
  pub each : (k : ℕ) → k < places → MeetsAt k olds news
  pub shares : AllZip SharesAlone olds news

-- ---- how they meet: one of them, the first, hears all others, and then tells each of them

-- the parts of a row are in normal form
abbrev pub AreNormal : List Known → Type 0
AreNormal known =
    (k : ℕ) (v : Known) → slice_get known k ≡ Some v → is_normal v.part ≡ true

-- the row with this number told the first one, at so many places
pub record TellsFirst (places i : ℕ) (first first_then : List Known)
    (rows rows_then : List (List Known)) : Type 0 where
  pub row : List Known
  pub row_then : List Known
  pub had : slice_get rows i ≡ Some row
  pub has : rows_then ≡ slice_set rows i row_then
  pub told : ToldUpTo places row first row_then first_then

-- the first one told the row with this number
pub record TellsRow (places i : ℕ) (first first_then : List Known)
    (rows rows_then : List (List Known)) : Type 0 where
  pub row : List Known
  pub row_then : List Known
  pub had : slice_get rows i ≡ Some row
  pub has : rows_then ≡ slice_set rows i row_then
  pub told : ToldUpTo places first row first_then row_then

-- what stays whoever tells whom
pub record HaveShared (places : ℕ) (olds news : List (List Known)) : Type 0 where
  pub long : Every (λ known. length known ≡ places) news
  pub normal : Every AreNormal news
  pub shares : AllZip SharesAlone olds news
  pub parts : (k : ℕ) → together_at k Empty news ≡ together_at k Empty olds

-- the first one has heard the first n of the others
pub record HasGathered (places n : ℕ) (first first_then : List Known)
    (rows rows_then : List (List Known)) : Type 0 where
  pub shared : HaveShared places (first ∷ rows) (first_then ∷ rows_then)
  pub same : AllZip (λ known known_then. (k : ℕ) → seen_at k known_then ≡ seen_at k known) rows
      rows_then
  pub among : (k : ℕ) (list : List Entry) → Sees k list first_then →
      OneIs (Sees k list) (first ∷ rows)
  pub behind : (k : ℕ) (list : List Entry) → Sees k list first_then →
      Begins k list first × EveryBelow n (Begins k list) rows

-- it has heard all others, and the first n of them have heard it
pub record HasSpread (places n : ℕ) (first first_then : List Known)
    (rows rows_then : List (List Known)) : Type 0 where
  pub shared : HaveShared places (first ∷ rows) (first_then ∷ rows_then)
  pub among : (k : ℕ) (list : List Entry) → Sees k list first_then →
      OneIs (Sees k list) (first ∷ rows)
  pub behind : (k : ℕ) (list : List Entry) → Sees k list first_then →
      Every (Begins k list) (first ∷ rows)
  pub done : (k : ℕ) (list : List Entry) → Sees k list first_then →
      EveryBelow n (Sees k list) rows_then
  pub rest : (k : ℕ) (list : List Entry) → Sees k list first_then →
      Every (Begins k list) rows_then
