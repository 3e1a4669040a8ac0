-- The words of a board: what each seat knows of them, their rule, and what each step makes of it
-- and tells.
use Rattle.std.specs.Prelude.{◌≡◌, ℕ, ◌+◌, ◌<◌, ◌≤◌, true, false, List, [], ◌∷◌, ◌++◌, length}
use Rattle.std.specs.Prelude.{slice_index}
use Rattle.atomic_table.specs.Table.{State, Me, Step}
use Rattle.table_seats.specs.Seats.{Each}
use Rattle.glance.specs.declared.totals.Totals.{Totals}
use Rattle.glance.specs.declared.view.Reading.{Reading}
use Rattle.glance.specs.declared.view.View.{View}
use Rattle.glance.specs.Words.{totals_of}
use Rattle.glance.specs.Views.{opening, latest, NeverDescend, ReadOff, readings_of, shown_of}
use Rattle.glance.specs.Views.{AreBeginnings}

-- the first seat makes the Writers and reads; its place is that of the next Writer
abbrev pub maker_at : ℕ → View
maker_at place =
    record { makes = true; writes = false; place = place; published = []; readings = [] }

abbrev pub first_view : View
first_view = maker_at 0

-- the first seat once it has made one Writer more
abbrev pub maker_view : View → View
maker_view v = record v { place = v.place + 1 }

-- the Writer's seat that it makes
abbrev pub writer_view : ℕ → View
writer_view place =
    record { makes = false; writes = true; place = place; published = []; readings = [] }

-- a seat that has read this, and neither makes Writers nor is one
abbrev pub reader_view : List Reading → View
reader_view readings =
    record { makes = false; writes = false; place = 0; published = []; readings = readings }

-- totals more were published
abbrev pub published_view : View → Totals → View
published_view v totals = record v { published = v.published ++ totals ∷ [] }

-- a place was read once more, for which this had been published
abbrev pub read_view : View → ℕ → List Totals → View
read_view v place published =
    record v { readings = v.readings ++ record { place = place; published = published } ∷ [] }

-- a Writer's seat that was told what another seat read
abbrev pub told_view : View → View → View
told_view v w = record v { readings = w.readings }

-- and that has looked through it
abbrev pub clear_view : View → View
clear_view v = record v { readings = [] }

-- ---- the rule
-- Each place has one Writer's seat, `writer`, and what was `published` for it; `made` Writers were
-- made. What a seat knows to have been published for a place by its readings of it are beginnings
-- of what was published, none shorter than the one before it.
pub record Fits (published : ℕ → List Totals) (writer : ℕ → ℕ) (made id : ℕ) (v : View)
    : Type 0 where
  pub makes : v.makes ≡ true → (id ≡ 0) × (v.place ≡ made)
  pub writes : v.writes ≡ true
      → (writer v.place ≡ id) × (v.place < made) × (v.published ≡ published v.place)
  pub reads : (k : ℕ) → AreBeginnings (shown_of k v.readings) (published k)

-- each word shows what was published last for its place
pub record Shows (places : ℕ) (s : State ℕ View) : Type 0 where
  pub published : ℕ → List Totals
  pub writer : ℕ → ℕ
  pub made : ℕ
  pub sized : length s.words ≡ places
  pub shown : (k : ℕ) → totals_of (slice_index s.words k) ≡ latest (published k)
  pub unmade : (k : ℕ) → made ≤ k → published k ≡ []
  pub rise : (k : ℕ) → NeverDescend (published k)
  pub each : Each (λ id v. Fits published writer made id v) s.views

-- ---- what each step tells
-- a seat, as the table sees it
abbrev pub Sat : Type 0
Sat = Me ℕ View

-- the totals of the word that is stored are published
abbrev pub Publishes : Step ℕ → Sat → ℕ → Sat → Type 0
Publishes s m stored m' = m' ≡ (published_view m.0 (totals_of stored), m.1)

-- the totals of the word that was found are read, which are the last that had been published, and
-- what was read of the place never descends
pub record Reads (s : Step ℕ) (m : Sat) (found : ℕ) (m' : Sat) : Type 0 where
  pub published : List Totals
  pub read : m' ≡ (read_view m.0 s.word published, m.1)
  pub last : totals_of found ≡ latest published
  pub grows : AreBeginnings (shown_of s.word m.0.readings) published
  pub rise : NeverDescend (readings_of s.word m'.0.readings)

-- a Writer's seat is told that what another knows to have been published for its place are
-- beginnings of what it published, so that what was read was read off the opening zeros and this
pub record Compares (s : Step ℕ) (m : Sat) (found : ℕ) (m' : Sat) : Type 0 where
  pub clear : m' ≡ (clear_view m.0, m.1)
  pub shown : AreBeginnings (shown_of m.0.place m.0.readings) m.0.published
  pub read_off : ReadOff (opening ∷ m.0.published) (readings_of m.0.place m.0.readings)
