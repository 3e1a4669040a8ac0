-- Closings: what stands in the queues' histories of a port that closes.
use Rattle.std.specs.Prelude.{◌≡◌, ◌<◌, ℕ, Bool, true, false, List, [], ◌∷◌, ◌==◌, Option, Some}
use Rattle.std.specs.Prelude.{None, if◌then◌else◌}
use Rattle.std.specs.List.{list_any}
use Rattle.queue_core.specs.State.{Bound}
use Rattle.queue_core.specs.declared.event.Event.{Event}
use Rattle.queue_core.specs.declared.event.Event.TheVariants.{Arrive, Ask, PortClosed, DeviceDown}
use Rattle.histories.specs.Numbers.{queue_count}
use Rattle.histories.specs.declared.entry.Entry.{Entry}
use Rattle.histories.specs.declared.log.Did.{Did}
use Rattle.histories.specs.declared.log.Did.TheVariants.{Received, Sent, Closed}
use Rattle.histories.specs.History.{history, replay}

-- a closing of this port
abbrev pub closes : ℕ → Event → Bool
closes port (Arrive card bypass room) = false
closes port (Ask by call request) = false
closes port (PortClosed closed) = port == closed
closes port (DeviceDown device) = false

-- a request or a closing of this port
abbrev pub is_by : ℕ → Event → Bool
is_by port (Arrive card bypass room) = false
is_by port (Ask by call request) = port == by
is_by port (PortClosed closed) = port == closed
is_by port (DeviceDown device) = false

abbrev pub is_closing_of : ℕ → Entry → Bool
is_closing_of port e = closes port e.event

abbrev pub is_of_port : ℕ → Entry → Bool
is_of_port port e = is_by port e.event

-- what stands behind the first of these
abbrev pub behind_first : (Entry → Bool) → List Entry → List Entry
behind_first test [] = []
behind_first test (e ∷ es) = if test e then es else behind_first test es

-- whether a queue in this state is bound to the port
abbrev pub is_bound_to : ℕ → Option Bound → Bool
is_bound_to port None = false
is_bound_to port (Some q) = port == q.port

-- In the history of a queue, behind the port's closing there is no other one and no request of the
-- port, and in the end the queue isn't bound to it.
pub record IsShutIn (port : ℕ) (h : List Entry) : Type 0 where
  pub last : list_any (is_of_port port) (behind_first (is_closing_of port) h) ≡ false
  pub unbound : is_bound_to port (replay h) ≡ false

-- a port that didn't close has no closing there
abbrev pub IsClosing : ℕ → Bool → List Entry → Type 0
IsClosing port true h = IsShutIn port h
IsClosing port false h = list_any (is_closing_of port) h ≡ false

-- whether what a port did is its closing
abbrev pub is_closed : Did → Bool
is_closed (Received queue number visit) = false
is_closed (Sent call ask answer) = false
is_closed Closed = true

-- so it is in each queue's history
abbrev pub AreClosings : List Entry → ℕ → List Did → Type 0
AreClosings es port dids =
    (queue : ℕ) → queue < queue_count →
    IsClosing port (list_any is_closed dids) (history queue es)
