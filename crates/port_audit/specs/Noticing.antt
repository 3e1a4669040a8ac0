-- For proofs alone: notices by the packet's number and its visit.
use Rattle.std.specs.Prelude.{◌≡◌, ◌≤◌, ℕ, Bool, true, false, List, [], ◌∷◌, flat_map, Option, Some}
use Rattle.std.specs.Prelude.{None}
use Rattle.std.specs.Prelude.{nat_eq, ◌==◌, ◌&&◌, ◌⊎◌, if◌then◌else◌}
use Rattle.std.specs.List.{list_any, AllByRecursion}
use Rattle.packet_entry.specs.declared.packet.Card.{Card}
use Rattle.packet_entry.specs.declared.letter.Letter.{Letter}
use Rattle.queue_core.specs.State.{Bound}
use Rattle.queue_core.specs.Laws.{times}
use Rattle.queue_core.specs.declared.event.Event.{Event}
use Rattle.queue_core.specs.declared.event.Event.TheVariants.{Arrive}
use Rattle.queue_core.specs.declared.event.Reply.{Reply}
use Rattle.queue_core.specs.declared.event.Reply.TheVariants.{Arrived}
use Rattle.queue_core.specs.declared.offers.Outcome.{Outcome}
use Rattle.queue_core.specs.declared.offers.Outcome.TheVariants.{Taken}
use Rattle.histories.specs.declared.entry.Entry.{Entry}
use Rattle.histories.specs.declared.log.Did.{Did}
use Rattle.histories.specs.declared.log.Did.TheVariants.{Received, Sent, Closed}
use Rattle.histories.specs.declared.log.PortLog.{PortLog}
use Rattle.histories.specs.declared.histories.Histories.{Histories}
use Rattle.histories.specs.History.{history}
use Rattle.histories.specs.Stays.{arrivals}
use Rattle.inspector_script.specs.Scripts.{ScriptValue}
use Rattle.run_parts.specs.Log.{Note}
use Rattle.run_parts.specs.Notices.{heard, letters_from}
use Rattle.run_parts.specs.Ports.{is_port}
use Rattle.port_audit.specs.declared.notices.Visit.{Visit}
use Rattle.port_audit.specs.Dealing.{RowMap, Takes, row_at, side}
use Rattle.queue_replay.specs.Replays.{port_in}
use Rattle.port_audit.specs.Makers.{IsAmong}
use Rattle.port_audit.specs.Told.{dids_of}

-- A notice is that of its packet's visit, for whatever port: another one of the same packet's visit
-- to the same queue is the same.
abbrev pub IsOnlyOne : List Entry → Letter → Type 0
IsOnlyOne es l = (port : ℕ) (m : Letter) →
    IsAmong m (letters_from port None (history l.queue es)) →
    m.number ≡ l.number → m.visit ≡ l.visit → l ≡ m

-- so it is of each notice that a port of the script received
abbrev pub AreOnlyOnes : ScriptValue → Histories → (ℕ → List Note) → Type 0
AreOnlyOnes script h notes = (port : ℕ) → is_port script port ≡ true →
    AllByRecursion (IsOnlyOne h.entries) (heard (notes port))

-- No two arrivals are of one packet at one visit.
abbrev pub ArriveOnce : List Entry → Type 0
ArriveOnce es = (number visits : ℕ) →
    times (λ n v. (n == number) && (v == visits)) (arrivals es) ≤ 1

-- ---- what is told

abbrev pub visit : ℕ → ℕ → Visit
visit number count = record { number = number; visit = count }

abbrev pub visit_of : Letter → Visit
visit_of l = visit l.number l.visit

-- the notice of this queue that was received
abbrev pub visits_by : ℕ → Did → List Visit
visits_by queue (Received from number count) =
    if from == queue then visit number count ∷ [] else []
visits_by queue (Sent call ask answer) = []
visits_by queue Closed = []

abbrev pub visits_in : ℕ → List Did → List Visit
visits_in queue dids = flat_map (visits_by queue) dids

abbrev pub visits_told : List PortLog → ℕ → ℕ → List Visit
visits_told logs p queue = visits_in queue (dids_of p logs)

-- ---- what is brought

-- the arrival that an entry's queue took
abbrev pub visits_of_outcome : Card → Outcome → List Visit
visits_of_outcome card (Taken id) = visit card.number card.visit ∷ []
visits_of_outcome card other = []

abbrev pub visits_of_reply : Card → Reply → List Visit
visits_of_reply card (Arrived outcome) = visits_of_outcome card outcome
visits_of_reply card other = []

abbrev pub visits_of_event : Event → Reply → List Visit
visits_of_event (Arrive card bypass room) reply = visits_of_reply card reply
visits_of_event other reply = []

abbrev pub visits_at : ℕ → Option ℕ → Entry → List Visit
visits_at p None e = []
visits_at p (Some port) e = if p == port then visits_of_event e.event e.reply else []

-- of these ports alone
abbrev pub visits_under : List ℕ → ℕ → Option Bound → Entry → List Visit
visits_under ports p q e = if list_any (nat_eq p) ports then visits_at p (port_in q) e else []

-- an entry brings this visit of this port, or brings none
abbrev pub BringsAt : List ℕ → Option ℕ → Entry → Option (ℕ × Visit) → Type 0
BringsAt ports po e None = (p : ℕ) → list_any (nat_eq p) ports ≡ true → visits_at p po e ≡ []
BringsAt ports po e (Some (port, v)) =
    (list_any (nat_eq port) ports ≡ true) × (po ≡ Some port)
    × (visits_of_event e.event e.reply ≡ v ∷ [])

-- two visits are the same
abbrev pub is_visit : Option Visit → Visit → Bool
is_visit None v = false
is_visit (Some told) v = (told.number == v.number) && (told.visit == v.visit)

-- what an entry brings is the first of its row, and is taken; or it brings something else
abbrev pub MeetsNext : List ℕ → Option ℕ → Entry → RowMap Visit → RowMap Visit → Bool → Type 0
MeetsNext ports po e old new true =
    (BringsAt ports po e None × (new ≡ old))
    ⊎ ((x : ℕ × Visit) × BringsAt ports po e (Some x) × Takes (side x.0 e.queue) x.1 old new)
MeetsNext ports po e old new false =
    (x : ℕ × Visit) × BringsAt ports po e (Some x)
    × ((xs : List Visit) → row_at old (side x.0 e.queue) ≡ x.1 ∷ xs → ⊥)
