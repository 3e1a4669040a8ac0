-- What comes before an event, in one order of all queues: where a packet left before it came again,
-- and what a port had received before it asked.
use Rattle.std.specs.Prelude.{◌≡◌, ◌≢◌, ℕ, zero, suc, ◌<◌, ◌⊎◌, List, [], ◌∷◌, ◌++◌}
use Rattle.std.specs.Prelude.{take, slice_get, Option, Some, None, ◌==◌, if◌then◌else◌}
use Rattle.packet_entry.specs.declared.packet.Card.{Card}
use Rattle.queue_core.specs.declared.event.Event.{Event}
use Rattle.queue_core.specs.declared.event.Event.TheVariants.{Arrive, Ask, PortClosed, DeviceDown}
use Rattle.queue_core.specs.declared.event.Reply.{Reply}
use Rattle.queue_core.specs.declared.event.Reply.TheVariants.{Arrived, Answer, Flushed}
use Rattle.queue_core.specs.declared.offers.Outcome.{Outcome}
use Rattle.queue_core.specs.declared.offers.Outcome.TheVariants.{Taken}
use Rattle.histories.specs.declared.entry.Entry.{Entry}
use Rattle.histories.specs.declared.log.Did.{Did}
use Rattle.histories.specs.declared.log.Did.TheVariants.{Received, Sent, Closed}
use Rattle.histories.specs.declared.log.PortLog.{PortLog}
use Rattle.histories.specs.History.{history}
use Rattle.histories.specs.Stays.{departures}

-- An entry; and of a request also the position of its message in its port's log. Of other entries
-- the position says nothing.
pub record Step : Type 0 where
  pub entry : Entry
  pub at : ℕ

-- a packet with this number, at this visit, is one of these
abbrev pub Has : ℕ → ℕ → List Card → Type 0
Has number visit [] = ⊥
Has number visit (c ∷ cs) =
    ((c.number ≡ number) × (c.visit ≡ visit)) ⊎ Has number visit cs

-- ---- packets that come again

-- the packet left a queue at this visit
pub record HasLeft (number visit : ℕ) (before : List Entry) : Type 0 where
  pub queue : ℕ
  pub left : Has number visit (departures (history queue before))

-- before a packet's next visit it left at the one before that
abbrev pub HasCome : ℕ → ℕ → List Entry → Type 0
HasCome number zero before = Unit {0}
HasCome number (suc zero) before = Unit {0}
HasCome number (suc (suc visit)) before = HasLeft number (suc visit) before

-- ---- notices that were received

-- the packet that arrived, where its queue took it
abbrev pub taken_as : Card → Outcome → List Card
taken_as card (Taken id) = card ∷ []
taken_as card other = []

abbrev pub taken_with : Card → Reply → List Card
taken_with card (Arrived outcome) = taken_as card outcome
taken_with card (Answer errno taken) = []
taken_with card (Flushed taken) = []

abbrev pub taken_by : Event → Reply → List Card
taken_by (Arrive card bypass room) reply = taken_with card reply
taken_by (Ask port call request) reply = []
taken_by (PortClosed port) reply = []
taken_by (DeviceDown device) reply = []

-- the packets that queues took, entry by entry
abbrev pub taken : List Entry → List Card
taken [] = []
taken (e ∷ es) = taken_by e.event e.reply ++ taken es

-- of each notice that was received among these, the arrival was before, and its queue took the
-- packet
abbrev pub AreTaken : List Did → List Entry → Type 0
AreTaken [] before = Unit {0}
AreTaken (Received queue number visit ∷ ds) before =
    Has number visit (taken (history queue before)) × AreTaken ds before
AreTaken (Sent call ask answer ∷ ds) before = AreTaken ds before
AreTaken (Closed ∷ ds) before = AreTaken ds before

-- ---- logs

-- what a port did, by the first log that is the port's
abbrev pub log_of : ℕ → List PortLog → List Did
log_of port [] = []
log_of port (l ∷ ls) = if port == l.port then l.dids else log_of port ls

-- the message with this number
abbrev pub IsSent : ℕ → Option Did → Type 0
IsSent call None = ⊥
IsSent call (Some (Received queue number visit)) = ⊥
IsSent call (Some (Sent number ask answer)) = call ≡ number
IsSent call (Some Closed) = ⊥

-- A request is a message of its port's log, and the arrivals of all notices that the port had
-- received when it sent it were before.
pub record IsAsked (dids : List Did) (call at : ℕ) (before : List Entry) : Type 0 where
  pub sent : IsSent call (slice_get dids at)
  pub heard : AreTaken (take at dids) before

-- ---- events

-- What was before an event. Before a port's closing were the arrivals of all notices that the port
-- received.
abbrev pub IsCausedAs : List PortLog → List Entry → ℕ → Event → Type 0
IsCausedAs logs before at (Arrive card bypass room) = HasCome card.number card.visit before
IsCausedAs logs before at (Ask port call request) = IsAsked (log_of port logs) call at before
IsCausedAs logs before at (PortClosed port) = AreTaken (log_of port logs) before
IsCausedAs logs before at (DeviceDown device) = Unit {0}

-- The one event may come before the other, as ports go: the earlier of two requests of one port has
-- the earlier message, and no port asks after its closing.
abbrev pub InLogOrderAs : Event → ℕ → Event → ℕ → Type 0
InLogOrderAs (Ask port call request) at (Ask other number asked) later =
    port ≡ other → at < later
InLogOrderAs (PortClosed port) at (Ask other number asked) later = port ≢ other
InLogOrderAs first at second later = Unit {0}
