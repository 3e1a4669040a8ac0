-- For proofs alone: what is kept of a queue's history so far, and how it goes on.
use Rattle.std.specs.Prelude.{◌≡◌, ◌≤◌, ◌<◌, ℕ, zero, suc, ◌+◌, ◌&&◌, ◌==◌, List, [], ◌∷◌, length}
use Rattle.std.specs.Prelude.{drop}
use Rattle.std.specs.Prelude.{Bool, true, false, nat_le, nat_lt, slice_get, Option}
use Rattle.std.specs.Prelude.{unwrap_or, if◌then◌else◌}
use Rattle.queue_core.specs.State.{Bound}
use Rattle.queue_core.specs.Step.{step}
use Rattle.queue_core.specs.declared.event.Event.{Event}
use Rattle.queue_core.specs.declared.event.Event.TheVariants.{Arrive, Ask, PortClosed, DeviceDown}
use Rattle.histories.specs.declared.entry.Entry.{Entry}
use Rattle.script_lines.specs.declared.line.Down.{Down}
use Rattle.run_parts.specs.Feeder.{feeding_time, falling_time}
use Rattle.feeder_audit.specs.declared.ways.Ways.{Ways}
use Rattle.feeder_audit.specs.declared.ways.Ways.TheVariants.{Nowhere, Here, FromHere, These}
use Rattle.feeder_audit.specs.declared.fed.Fed.{Fed}
use Rattle.feeder_audit.specs.Fitting.{Row, FitsBy, IsOpen, Rises}

-- ---- rows

-- no line is put in, if that can be
abbrev pub only : Bool → Row
only is_way zero = is_way
only is_way (suc k) = false

abbrev pub none : Row
none k = false

abbrev pub all : Row
all k = true

abbrev pub flag_at : List Bool → Row
flag_at flags k = unwrap_or (slice_get flags k) false

abbrev pub row_of : Ways → Row
row_of Nowhere = none
row_of Here = only true
row_of FromHere = all
row_of (These flags) = flag_at flags.items

-- how many of the lines that are left stand before the frame with this number
abbrev pub lines_before : ℕ → List Down → ℕ
lines_before number [] = zero
lines_before number (d ∷ ds) =
    if nat_lt d.after number then suc (lines_before number ds) else zero

-- the row behind the first line once a device went down
abbrev pub fallen : ℕ → List Down → Row → ℕ → List Bool
fallen device [] row at = []
fallen device (d ∷ ds) row at =
    ((d.device == device) && row at) ∷ fallen device ds row (at + 1)

abbrev pub IsFallen : ℕ → List Down → Row → Ways → Type 0
IsFallen device ds row ways =
    (k : ℕ) → row_of ways k ≡ flag_at (fallen device ds row 0) k

abbrev pub first_time : ℕ → List Down → ℕ
first_time t [] = t
first_time t (d ∷ ds) = falling_time d.after

-- the least number of lines that can have been put in, of those up to this one
pub record IsLeast (row : Row) (left k : ℕ) : Type 0 where
  pub within : k ≤ left
  pub is : row k ≡ true
  pub before : (j : ℕ) → j < k → row j ≡ false

abbrev pub HasNone : Row → ℕ → Type 0
HasNone row left = (k : ℕ) → k ≤ left → row k ≡ false

-- ---- what is kept

pub record IsKept (downs : List Down) (f : Fed) : Type 0 where
  pub within : f.placed ≤ length downs
  pub rises : Rises f.time (drop f.placed downs)

-- from a queue's state on, the lines that are left can be put into what is left of the history
abbrev pub IsFedBy : List Down → Option Bound → Fed → List Entry → Type 0
IsFedBy downs q f h = FitsBy q f.time h (drop f.placed downs) (row_of f.ways)

-- an entry is gone over at a queue in this state
pub record Follows (downs : List Down) (q : Option Bound) (old new : Fed) (e : Entry) : Type 0
  where
    pub kept : IsKept downs new
    pub goes : (es : List Entry) → IsFedBy downs q old (e ∷ es) →
        IsFedBy downs (step q e.event).state new es
    pub came : (es : List Entry) → IsFedBy downs (step q e.event).state new es →
        IsFedBy downs q old (e ∷ es)

-- lines passed if the queue, which is in this state, is absent
pub record Closes (downs : List Down) (q : Option Bound) (old new : Fed) : Type 0 where
  pub kept : IsKept downs new
  pub opened : IsOpen q (row_of new.ways)
  pub goes : (h : List Entry) → IsFedBy downs q old h → IsFedBy downs q new h
  pub came : (h : List Entry) → IsFedBy downs q new h → IsFedBy downs q old h

-- ---- an event

pub record Stays (old new : Fed) : Type 0 where
  pub placed : new.placed ≡ old.placed
  pub time : new.time ≡ old.time
  pub ways : new.ways ≡ old.ways

-- whether the frame with this number can be fed next
abbrev pub can_feed : List Down → ℕ → Fed → Bool
can_feed left number f =
    nat_le f.time (feeding_time number) && row_of f.ways (lines_before number left)

-- The packet with this number arrived for the first time: just the lines after earlier frames are
-- put in.
pub record Feeds (downs : List Down) (number : ℕ) (old new : Fed) : Type 0 where
  pub placed : new.placed ≡ old.placed + lines_before number (drop old.placed downs)
  pub within : new.placed ≤ length downs
  pub time : new.time ≡ feeding_time number + 1
  pub row : row_of new.ways ≡ only (can_feed (drop old.placed downs) number old)

-- a device went down, by one of the lines that are left
pub record Falls (downs : List Down) (device : ℕ) (old new : Fed) : Type 0 where
  pub left : drop new.placed downs ≡ drop 1 (drop old.placed downs)
  pub within : new.placed ≤ length downs
  pub time : new.time ≡ first_time old.time (drop old.placed downs)
  pub row : IsFallen device (drop old.placed downs) (row_of old.ways) new.ways

abbrev pub FeedsIf : Bool → List Down → ℕ → Fed → Fed → Type 0
FeedsIf true downs number old new = Feeds downs number old new
FeedsIf false downs number old new = Stays old new

abbrev pub Moves : List Down → Fed → Fed → Event → Type 0
Moves downs old new (Arrive card bypass room) =
    FeedsIf (card.visit == 1) downs card.number old new
Moves downs old new (Ask port call request) = Stays old new
Moves downs old new (PortClosed port) = Stays old new
Moves downs old new (DeviceDown device) = Falls downs device old new
