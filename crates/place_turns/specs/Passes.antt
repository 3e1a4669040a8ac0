-- What contracts see of the passes of one holder.
use Rattle.std.specs.Prelude.{◌≡◌, ℕ, List, length}
use Rattle.atomic_table.specs.Seated.{TableId}
use Rattle.locked_place.specs.Turns.{ClosesIn}
use Rattle.locked_place.specs.Views.{label_of}
use Rattle.place_rows.specs.Rows.{Known, TimedKnown, AreKnown, label_at}
use Rattle.place_turns.specs.declared.places.Places.{Places}
use Rattle.place_turns.specs.Places.{outlets_of, locks_of}
use Rattle.place_turns.specs.Trails.{Trail}

-- the passes of one holder, one of each place's lock
pub record PassesView : Type 0 where
  -- the locks, in the places' order
  pub locks : List TableId
  pub trail : Trail
  -- what they know of each place with times, and their clock: the latest time that they know
  pub timed : List TimedKnown
  pub clock : ℕ
  -- how many more packets may be lost without memory
  pub room : ℕ

-- these locks are the places', one thing is known of each, and that is of the place with its number
pub record AreOf (places : Places) (locks : List TableId) (known : List Known) : Type 0 where
  pub locks_are : locks ≡ locks_of places
  pub as_many : length known ≡ length locks
  pub known_so : AreKnown label_of (label_at (outlets_of places)) known

-- a port closed in a turn, whatever was destroyed with that
abbrev pub Shuts : ℕ → Known → Known → Type 0
Shuts port v w = (count : ℕ) × ClosesIn port v w count
