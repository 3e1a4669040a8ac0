-- What it is for histories to be made by a script, part by part. Each part can hold or not by
-- itself, of histories and of what is told in full of each port.
use Rattle.std.specs.Prelude.{◌≡◌, ℕ, true, false, List, [], map, Some}
use Rattle.packet_entry.specs.declared.letter.Letter.{Letter}
use Rattle.histories.specs.declared.log.Did.{Did}
use Rattle.histories.specs.declared.log.PortLog.{PortLog}
use Rattle.histories.specs.declared.histories.Histories.{Histories}
use Rattle.inspector_script.specs.Scripts.{ScriptValue}
use Rattle.run_parts.specs.Ports.{is_port, place_in, log_of}
use Rattle.run_parts.specs.Log.{Note, IsLog, AreNextFrom, logged, start}
use Rattle.run_parts.specs.Requests.{AreRequests, AreErrnos, AreAnswers}
use Rattle.run_parts.specs.Notices.{AreNotices}
use Rattle.run_parts.specs.Closing.{AreClosings}
use Rattle.run_parts.specs.Room.{AreRoomy}
use Rattle.run_parts.specs.Feeder.{AreFed}
use Rattle.run_parts.specs.Order.{AreOrdered}

-- The log of each of the script's ports that has one is what the script says, behind a pool of so
-- many workers, and nothing is told of any other number.
pub record LogHolds (workers : ℕ) (script : ScriptValue) (h : Histories) (notes : ℕ → List Note)
    : Type 0 where
  pub each : (port : ℕ) (dids : List Did) → is_port script port ≡ true →
      log_of port h.logs ≡ Some dids →
      IsLog workers script (place_in port script.ports) port (notes port) dids
  pub others : (port : ℕ) → is_port script port ≡ false → notes port ≡ []

-- The requests in the queues' histories are those of the ports' messages, and of nobody else;
-- each message has its errno, and each log has the answers to its port's messages.
pub record RequestsHold (script : ScriptValue) (h : Histories) (notes : ℕ → List Note)
    : Type 0 where
  pub each : (port : ℕ) → is_port script port ≡ true →
      AreRequests h.entries port (notes port)
  pub nobody : (port : ℕ) → is_port script port ≡ false → AreRequests h.entries port []
  pub errnos : (port : ℕ) → is_port script port ≡ true → AreErrnos (notes port)
  pub answers : (port : ℕ) (dids : List Did) → is_port script port ≡ true →
      log_of port h.logs ≡ Some dids → AreAnswers port (notes port) dids

-- What a port received are the notices of the arrivals that its queues took, but for those that
-- are left in its mailbox.
abbrev pub NoticesHold : ScriptValue → Histories → (ℕ → List Note) → (ℕ → List Letter) → Type 0
NoticesHold script h notes left =
    (port : ℕ) → is_port script port ≡ true →
    AreNotices h.entries port (notes port) (left port)

-- Where a port's log has its closing, no history has a second one of the port nor a request of it
-- behind its closing, and in the end no queue is bound to it; else no history has one.
abbrev pub ClosingHolds : ScriptValue → Histories → (ℕ → List Note) → Type 0
ClosingHolds script h notes =
    (port : ℕ) → is_port script port ≡ true →
    AreClosings h.entries port (logged port (notes port))

-- First arrivals of each feeder's frames come in their order, and devices go down between them
-- where the script says it.
abbrev pub FeederHolds : ℕ → ScriptValue → ℕ → Histories → Type 0
FeederHolds feeders script frames h = AreFed feeders script frames h.entries

-- There is one log for each port of the script, in its order, and no other log.
abbrev pub PortsHold : ScriptValue → Histories → Type 0
PortsHold script h = map (λ (l : PortLog). l.port) h.logs ≡ script.ports

-- The ports open before all else and end behind all that was fed, each in their order.
abbrev pub OrderHolds : ℕ → ScriptValue → Histories → (ℕ → List Note) → Type 0
OrderHolds workers script h notes = AreOrdered workers script notes h.entries

-- An arrival found no room only where the port was sent as many notices as its mailbox holds.
abbrev pub RoomHolds : ScriptValue → Histories → (ℕ → List Note) → (ℕ → List Letter) → Type 0
RoomHolds script h notes left =
    (port : ℕ) → is_port script port ≡ true →
    AreRoomy script.mail h.entries port (notes port) (left port)

-- a log is what is told of its port, with the answers, and each of it was next
pub record IsTold (workers : ℕ) (script : ScriptValue) (notes : ℕ → List Note) (l : PortLog)
    : Type 0 where
  pub whole : l.dids ≡ logged l.port (notes l.port)
  pub next : AreNextFrom workers script (place_in l.port script.ports) l.port
      (start script (place_in l.port script.ports)) (notes l.port)

-- Histories that ports made by this script over so many frames, each with a pool of so many
-- workers, and with so many feeders; with what each port did told in full, and with the notices
-- that are left in its mailbox: all parts hold.
pub record IsMadeBy (workers feeders : ℕ) (script : ScriptValue) (frames : ℕ) (h : Histories)
    (notes : ℕ → List Note) (left : ℕ → List Letter) : Type 0 where
  pub log : LogHolds workers script h notes
  pub requests : RequestsHold script h notes
  pub notices : NoticesHold script h notes left
  pub closing : ClosingHolds script h notes
  pub feeder : FeederHolds feeders script frames h
  pub ports : PortsHold script h
  pub order : OrderHolds workers script h notes
  pub room : RoomHolds script h notes left
