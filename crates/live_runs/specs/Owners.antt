-- Whose entries are whose, and what holds of a pass as long as the entries that aren't its own are
-- none of its business.
use Rattle.std.specs.Prelude.{◌≡◌, ◌<◌, ◌≤◌, ℕ, Bool, false, List, [], flat_map}
use Rattle.nfqa_msgs.specs.RequestReading.{PayloadFits}
use Rattle.queue_core.specs.declared.event.Event.{Event}
use Rattle.queue_core.specs.declared.event.Event.TheVariants.{Arrive, Ask, PortClosed, DeviceDown}
use Rattle.histories.specs.declared.entry.Entry.{Entry}
use Rattle.histories.specs.History.{history}
use Rattle.histories.specs.Numbers.{queue_count}
use Rattle.histories.specs.Places.{place_for}
use Rattle.script_lines.specs.declared.line.Down.{Down}
use Rattle.run_parts.specs.Closing.{IsClosing, is_of_port}
use Rattle.run_parts.specs.Feeder.{IsFedBy, IsNoDown, times_of_event}
use Rattle.run_parts.specs.Log.{Note}
use Rattle.run_parts.specs.Requests.{pleas_in, pleas_told}
use Rattle.run_parts.specs.Underway.{AllFed}
use Rattle.live_runs.specs.Seen.{Seen, Shares, entries, TheirsAre}

-- ---- whose entries are whose

-- a port's own: its requests, each with a payload that fits; what they hand on; and its closings
abbrev pub IsEventOf : ℕ → Event → Type 0
IsEventOf port (Arrive card bypass room) = 2 ≤ card.visit
IsEventOf port (Ask by call request) = (by ≡ port) × PayloadFits request
IsEventOf port (PortClosed closed) = closed ≡ port
IsEventOf port (DeviceDown device) = ⊥

abbrev pub IsOf : ℕ → Entry → Type 0
IsOf port e = IsEventOf port e.event

-- those of a port that doesn't close
abbrev pub IsAskingEvent : ℕ → Event → Type 0
IsAskingEvent port (Arrive card bypass room) = 2 ≤ card.visit
IsAskingEvent port (Ask by call request) = (by ≡ port) × PayloadFits request
IsAskingEvent port (PortClosed closed) = ⊥
IsAskingEvent port (DeviceDown device) = ⊥

abbrev pub IsAskingOf : ℕ → Entry → Type 0
IsAskingOf port e = IsAskingEvent port e.event

-- a feeder's own: arrivals, and devices that go down
abbrev pub IsFeedersEvent : Event → Type 0
IsFeedersEvent (Arrive card bypass room) = Unit {0}
IsFeedersEvent (Ask by call request) = ⊥
IsFeedersEvent (PortClosed closed) = ⊥
IsFeedersEvent (DeviceDown device) = Unit {0}

abbrev pub IsFeeders : Entry → Type 0
IsFeeders e = IsFeedersEvent e.event

-- ---- guards

-- neither a request nor a closing of the port
abbrev pub IsNotBy : ℕ → Entry → Type 0
IsNotBy port e = is_of_port port e ≡ false

-- As long as the others' entries aren't of this port, its requests at a queue are those of the
-- messages that it sent.
pub record IsEven (port queue : ℕ) (xs : List Seen) (notes : List Note) : Type 0 where
  pub even : TheirsAre (IsNotBy port) xs →
      pleas_in port (history queue (entries xs)) ≡ flat_map (pleas_told queue) notes

-- so it is at each queue
pub record AreEven (places port : ℕ) (shares : Shares) (notes : List Note) : Type 0 where
  pub each : (queue : ℕ) → IsEven port queue (shares (place_for queue places)) notes

-- As long as the others' entries aren't of this port, its closing stands in each queue's history
-- as it has to where the port has closed, or none does.
pub record IsShutting (port : ℕ) (closed : Bool) (xs : List Seen) : Type 0 where
  pub closing : TheirsAre (IsNotBy port) xs → (queue : ℕ) → queue < queue_count →
      IsClosing port closed (history queue (entries xs))

-- neither a first arrival nor a device that goes down
abbrev pub IsNotFed : Entry → Type 0
IsNotFed e = IsNoDown e.event × (times_of_event e.event ≡ [])

-- As long as the others' entries are no first arrivals and no devices that go down, the place was
-- fed up to this time, with these lines.
pub record IsFeeding (time : ℕ) (fallen : List Down) (xs : List Seen) : Type 0 where
  pub fed : TheirsAre IsNotFed xs → AllFed time fallen (entries xs)

-- As long as the others' entries are no first arrivals and no devices that go down, so many feeders
-- fed each queue of the place, with these lines.
pub record IsFedByAll (feeders : ℕ) (downs : List Down) (xs : List Seen) : Type 0 where
  pub fed : TheirsAre IsNotFed xs → (queue : ℕ) → queue < queue_count →
      IsFedBy feeders downs (history queue (entries xs))
