-- What contracts see of a board, of a place's Writer and of who reads, and what was read of what
-- was published.
use Rattle.std.specs.Prelude.{◌≡◌, ℕ, ◌<◌, ◌≤◌, List, [], ◌∷◌, ◌++◌, length, map, nat_eq, Option}
use Rattle.std.specs.Prelude.{Some, if◌then◌else◌, slice_get}
use mathlib.Core.List.{IsPrefix}
use Rattle.atomic_table.specs.Seated.{TableId}
use Rattle.glance.specs.declared.totals.Totals.{Totals}
use Rattle.glance.specs.declared.view.Reading.{Reading}

-- a board: its own identity, and how many places it has
pub record BoardView : Type 0 where
  pub table : TableId
  pub places : ℕ

-- a place's Writer
pub record WriterView : Type 0 where
  pub board : BoardView
  pub place : ℕ
  -- what it published, in this order
  pub published : List Totals

-- who reads
pub record PassView : Type 0 where
  pub board : BoardView
  -- each time that it read, in this order, with the place and what had been published for it
  pub readings : List Reading

-- ---- totals of one place
-- what every place shows before anything is published
abbrev pub opening : Totals
opening = record { events = 0; waiting = 0 }

-- the last of these, or t where there is none
abbrev pub last_of : Totals → List Totals → Totals
last_of t [] = t
last_of t (p ∷ ps) = last_of p ps

-- what a place shows for which this was published
abbrev pub latest : List Totals → Totals
latest published = last_of opening published

-- the events of each are as many as those of the one before, or more, and at least `low`
abbrev pub Rise : ℕ → List Totals → Type 0
Rise low [] = Unit {0}
Rise low (t ∷ ts) = (low ≤ t.events) × Rise t.events ts

-- the events never descend
abbrev pub NeverDescend : List Totals → Type 0
NeverDescend ts = Rise 0 ts

-- each of the readings stands in the list, none before the one that was read before it
abbrev pub ReadOff : List Totals → List Totals → Type 0
ReadOff list [] = Unit {0}
ReadOff list (r ∷ rs) =
    (front : List Totals) × (back : List Totals) × (list ≡ front ++ r ∷ back)
    × ReadOff (r ∷ back) rs

-- what had been published for a place by each reading of it, in this order
abbrev pub shown_of : ℕ → List Reading → List (List Totals)
shown_of k [] = []
shown_of k (r ∷ rs) =
    if nat_eq r.place k then r.published ∷ shown_of k rs else shown_of k rs

-- what was read of it: each time the last of these
abbrev pub readings_of : ℕ → List Reading → List Totals
readings_of k readings = map latest (shown_of k readings)

-- each of these lists begins with the one before it, and `all` begins with the last
abbrev pub GrowTo : List Totals → List Totals → List (List Totals) → Type 0
GrowTo all before [] = IsPrefix before all
GrowTo all before (list ∷ lists) = IsPrefix before list × GrowTo all list lists

-- these lists are beginnings of what was published, none shorter than the one before it
abbrev pub AreBeginnings : List (List Totals) → List Totals → Type 0
AreBeginnings lists all = GrowTo all [] lists

-- ---- calls
-- the Writer of a place, which has published nothing
abbrev pub opening_writer : BoardView → ℕ → WriterView
opening_writer board place = record { board = board; place = place; published = [] }

-- the Writers of the first n places, all of which are there
pub record FirstWriters (board : BoardView) (n : ℕ) (writers : List (Option WriterView))
    : Type 0 where
  pub many : length writers ≡ n
  pub each : (k : ℕ) → k < n → slice_get writers k ≡ Some (Some (opening_writer board k))

-- the Writers of all places
abbrev pub AllWriters : BoardView → List (Option WriterView) → Type 0
AllWriters board writers = FirstWriters board board.places writers

-- totals more were published
abbrev pub published_by : WriterView → Totals → WriterView
published_by w totals = record w { published = w.published ++ totals ∷ [] }

-- who has read nothing
abbrev pub opening_pass : BoardView → PassView
opening_pass board = record { board = board; readings = [] }

-- a place was read once more, for which this had been published
abbrev pub read_by : PassView → ℕ → List Totals → PassView
read_by p place published =
    record p { readings = p.readings ++ record { place = place; published = published } ∷ [] }

-- A place was read: `totals` are the last that had been published for it by then, or the opening
-- zeros, and what had been published by the earlier readings of it are beginnings of that
pub record ReadsLatest (old : PassView) (place : ℕ) (totals : Totals) (new : PassView) : Type 0
  where
    pub published : List Totals
    pub read : new ≡ read_by old place published
    pub last : totals ≡ latest published
    pub grows : AreBeginnings (shown_of place old.readings) published
