-- How long the packets and payloads of a history are.
use Rattle.std.specs.Prelude.{◌≡◌, ◌≤◌, ℕ, Bool, List, length, All}
use Rattle.packet_entry.specs.declared.packet.Card.{Card}
use Rattle.packet_entry.specs.Numbers.{longest_packet}
use Rattle.nfqa_msgs.specs.declared.request.Request.{Request}
use Rattle.nfqa_msgs.specs.RequestReading.{PayloadFits}
use Rattle.queue_core.specs.declared.event.Event.TheVariants.{Arrive, Ask}
use Rattle.histories.specs.declared.entry.Entry.{Entry}

-- no packet that arrives is longer than a frame may be
abbrev pub AreSmall : List Entry → Type 0
AreSmall es =
    All (λ (e : Entry). (card : Card) (bypass room : Bool) → e.event ≡ Arrive card bypass room →
    length card.bytes ≤ longest_packet) es

-- no payload that was asked for is longer than one attribute may be
abbrev pub AreShort : List Entry → Type 0
AreShort es =
    All (λ (e : Entry). (port call : ℕ) (request : Request) → e.event ≡ Ask port call request →
    PayloadFits request) es
