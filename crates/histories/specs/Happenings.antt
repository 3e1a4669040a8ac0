-- What happens at queues, as events and entries: arrivals, requests and what they hand on, closings
-- of ports, and devices that go down.
use Rattle.std.specs.Prelude.{ℕ, List, [], ◌∷◌, Option, Some, None, Bool}
use Rattle.std.specs.Prelude.{flat_map, ◌==◌, if◌then◌else◌}
use Rattle.packet_entry.specs.declared.packet.Card.{Card}
use Rattle.hook_chain.specs.declared.chain.Decision.{Decision}
use Rattle.nfqa_msgs.specs.declared.request.Request.{Request}
use Rattle.nfqa_msgs.specs.declared.request.Request.TheVariants.{Config, Verdict, Batch}
use Rattle.queue_core.specs.declared.event.Event.{Event}
use Rattle.queue_core.specs.declared.event.Event.TheVariants.{Arrive, PortClosed, DeviceDown}
use Rattle.queue_core.specs.State.{Bound}
use Rattle.queue_core.specs.Step.{Way, Gone, Open, Decided}
use Rattle.histories.specs.declared.entry.Entry.{Entry}
use Rattle.histories.specs.Journeys.{Arrival}
use Rattle.histories.specs.States.{state_of, entry_in, every_number}

-- ---- arrivals

abbrev pub arrive : Arrival → Bool → Event
arrive a room = Arrive a.card a.bypass room

-- ---- requests

-- the queue that a request names
abbrev pub queue_of : Request → ℕ
queue_of (Config queue command params maxlen flags mask) = queue
queue_of (Verdict queue head mark payload priority) = queue
queue_of (Batch queue head mark priority) = queue

-- the bytes that a request gives a packet
abbrev pub payload_of : Request → Option (List ℕ)
payload_of (Config queue command params maxlen flags mask) = None
payload_of (Verdict queue head mark payload priority) = payload
payload_of (Batch queue head mark priority) = None

-- what is handed out of what left: each packet that a verdict lets go on, with its decision
abbrev pub handed_of : Card × Way → List (Card × Decision)
handed_of (card, Gone) = []
handed_of (card, Open) = []
handed_of (card, Decided decision) = (card, decision) ∷ []

abbrev pub all_handed : List (Card × Way) → List (Card × Decision)
all_handed left = flat_map handed_of left

-- ---- ports and devices

-- the entry of a port's closing at a queue in this state: it stands where the queue is bound to the
-- port
abbrev pub closing_of : ℕ → ℕ → Option Bound → List Entry
closing_of port queue None = []
closing_of port queue (Some q) =
    if q.port == port then entry_in queue (Some q) (PortClosed port) ∷ [] else []

-- the entry of a device that goes down at a queue in this state: it stands where the queue is bound
abbrev pub down_of : ℕ → ℕ → Option Bound → List Entry
down_of device queue None = []
down_of device queue (Some q) = entry_in queue (Some q) (DeviceDown device) ∷ []

-- at all queues, ascending
abbrev pub closings : ℕ → List Entry → List Entry
closings port es = flat_map (λ q. closing_of port q (state_of es q)) every_number

abbrev pub downs : ℕ → List Entry → List Entry
downs device es = flat_map (λ q. down_of device q (state_of es q)) every_number
