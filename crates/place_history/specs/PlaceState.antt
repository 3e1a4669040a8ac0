-- A place: the entries so far, of which each of its queues is the replay, and an arrival that was
-- begun and isn't settled yet.
use Rattle.std.specs.Prelude.{◌≡◌, ℕ, List, [], ◌∷◌, ◌++◌, Option, None, Bool, All}
use Rattle.queue_core.specs.declared.event.Event.{Event}
use Rattle.histories.specs.declared.entry.Entry.{Entry}
use Rattle.histories.specs.Journeys.{Arrival}
use Rattle.histories.specs.States.{entry_of}
use Rattle.histories.specs.Places.{place_for}

pub record PlaceState : Type 0 where
  -- which of how many places it is
  pub number : ℕ
  pub places : ℕ
  pub entries : List Entry
  -- the arrival that was begun and isn't settled
  pub offer : Option Arrival
  -- whether the waiting packets were given up, after which nothing happens here any more
  pub is_left : Bool

-- whether a queue is one of this place's
abbrev pub IsAt : PlaceState → ℕ → Type 0
IsAt place queue = place_for queue place.places ≡ place.number

-- of so many places, entries of the one with this number
abbrev pub AreHere : ℕ → ℕ → List Entry → Type 0
AreHere places number es = All (λ (e : Entry). place_for e.queue places ≡ number) es

-- the place once it happened
abbrev pub after_event : PlaceState → ℕ → Event → PlaceState
after_event place queue event =
    record place {
      entries = place.entries ++ entry_of place.entries queue event ∷ [];
      offer = None;
    }
