-- What holds of packets from where they enter on: of what is told of a packet, and is kept by
-- edits and on the way to the next table.
use Rattle.std.specs.Prelude.{◌≡◌, ℕ, List, Option, Bool, true, IfSome}
use Rattle.std.specs.List.{AllByRecursion}
use Rattle.packet_entry.specs.declared.packet.Card.{Card}
use Rattle.packet_entry.specs.Card.{edited}
use Rattle.nfqa_msgs.specs.declared.request.Request.{Request}
use Rattle.nfqa_msgs.specs.declared.request.Request.TheVariants.{Config, Verdict, Batch}
use Rattle.queue_core.specs.declared.event.Event.{Event}
use Rattle.queue_core.specs.declared.event.Event.TheVariants.{Arrive, Ask, PortClosed, DeviceDown}
use Rattle.histories.specs.declared.entry.Entry.{Entry}

-- edits keep it where this holds of their payloads, and so does the way to the next table
pub record IsKept (test : Card → Bool) (Given : List ℕ → Type 0) : Type 0 where
  pub edits : (c : Card) (mark : Option ℕ) (payload : Option (List ℕ)) (priority : Option ℕ) →
      test c ≡ true → IfSome payload Given → test (edited c mark payload priority) ≡ true
  pub moves : (c : Card) (visit table : ℕ) →
      test (record c { visit = visit; table = table }) ≡ test c

-- this holds of a request's payload, if it has one
abbrev pub GivenIn : (List ℕ → Type 0) → Request → Type 0
GivenIn Given (Config queue command params maximum flags mask) = Unit {0}
GivenIn Given (Verdict queue head mark payload priority) = IfSome payload Given
GivenIn Given (Batch queue head mark priority) = Unit {0}

-- so it is of all that is asked
abbrev pub Asks : (List ℕ → Type 0) → Event → Type 0
Asks Given (Arrive card bypass room) = Unit {0}
Asks Given (Ask port call request) = GivenIn Given request
Asks Given (PortClosed port) = Unit {0}
Asks Given (DeviceDown device) = Unit {0}

abbrev pub AllAsk : (List ℕ → Type 0) → List Entry → Type 0
AllAsk Given es = AllByRecursion (λ (e : Entry). Asks Given e.event) es

-- the test is passed by each packet that arrives
abbrev pub Arrives : (Card → Bool) → Event → Type 0
Arrives test (Arrive card bypass room) = test card ≡ true
Arrives test (Ask port call request) = Unit {0}
Arrives test (PortClosed port) = Unit {0}
Arrives test (DeviceDown device) = Unit {0}

abbrev pub AllArrive : (Card → Bool) → List Entry → Type 0
AllArrive test es = AllByRecursion (λ (e : Entry). Arrives test e.event) es
