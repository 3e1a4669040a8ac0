-- Order: what ports ask as they open stands before all else, and what they ask as they end stands
-- behind all that was fed, each in the order of the ports.
use Rattle.std.specs.Prelude.{◌≡◌, ◌<◌, ℕ, suc, Bool, true, false, List, [], ◌∷◌, ◌++◌, map}
use Rattle.std.specs.Prelude.{flat_map, length, ◌==◌, if◌then◌else◌}
use Rattle.std.specs.List.{list_any}
use Rattle.queue_core.specs.declared.event.Event.{Event}
use Rattle.queue_core.specs.declared.event.Event.TheVariants.{Arrive, Ask, PortClosed, DeviceDown}
use Rattle.histories.specs.declared.entry.Entry.{Entry}
use Rattle.histories.specs.Numbers.{queue_count}
use Rattle.histories.specs.History.{history}
use Rattle.histories.specs.Logs.{is_received}
use Rattle.inspector_script.specs.Scripts.{ScriptValue}
use Rattle.run_parts.specs.Log.{Note, Due, Standing, start, after}
use Rattle.run_parts.specs.Requests.{pleas_of, pleas_told}
use Rattle.run_parts.specs.Ports.{place_in}
use Rattle.run_parts.specs.Ascending.{Ascend}

-- ---- kinds of messages

-- a message is one of the port's opening, of its answer to a notice, or of its end
pub data Kind : Type 0 where
  Opens : Kind
  Answers : Kind
  Ends : Kind

-- A port that owes nothing sends its end; one that owes something answers a notice, or opens where
-- it received none yet.
abbrev pub kind_by : List Due → Bool → Kind
kind_by [] received = Ends
kind_by (d ∷ ds) true = Answers
kind_by (d ∷ ds) false = Opens

abbrev pub kind_at : Standing → Kind
kind_at t = kind_by t.owed (list_any is_received t.dids)

-- the kinds of a port's messages that ask something of this queue, from where it stands
-- on, with so many workers
abbrev pub kinds_from : ℕ → ScriptValue → ℕ → ℕ → ℕ → Standing → List Note → List Kind
kinds_from workers script place queue port t [] = []
kinds_from workers script place queue port t (n ∷ ns) =
    map (λ plea. kind_at t) (pleas_told queue n)
    ++ kinds_from workers script place queue port (after workers script place port t n) ns

abbrev pub kinds_told : ℕ → ScriptValue → ℕ → ℕ → List Note → List Kind
kinds_told workers script queue port notes =
    let place = place_in port script.ports in
    kinds_from workers script place queue port (start script place) notes

-- ---- a history with these kinds beside it

-- an entry with the kind of its message; where it is no request, the kind says nothing
pub record Marked : Type 0 where
  pub entry : Entry
  pub kind : Kind

-- the kinds of this port's requests
abbrev pub kinds_of : ℕ → Marked → List Kind
kinds_of port m = map (λ plea. m.kind) (pleas_of port m.entry)

-- ---- ranks

-- a request of an opening has its port's place; behind all of these comes all else
abbrev pub early_by : List ℕ → Kind → Event → ℕ
early_by ports Opens (Ask port call request) = place_in port ports
early_by ports kind event = length ports

abbrev pub early_rank : List ℕ → Marked → ℕ
early_rank ports m = early_by ports m.kind m.entry.event

-- a request of an end, and a closing, come by their port's place behind all that was fed; other
-- entries stand anywhere
abbrev pub late_asked : List ℕ → ℕ → Kind → List ℕ
late_asked ports port Opens = []
late_asked ports port Answers = []
late_asked ports port Ends = suc (place_in port ports) ∷ []

abbrev pub late_by : List ℕ → Kind → Event → List ℕ
late_by ports kind (Arrive card bypass room) = if card.visit == 1 then 0 ∷ [] else []
late_by ports kind (Ask port call request) = late_asked ports port kind
late_by ports kind (PortClosed port) = suc (place_in port ports) ∷ []
late_by ports kind (DeviceDown device) = 0 ∷ []

abbrev pub late_ranks : List ℕ → Marked → List ℕ
late_ranks ports m = late_by ports m.kind m.entry.event

-- A queue's history is in order, where each port's messages ask of this queue with these kinds: the
-- requests of openings stand before all other entries, those of an earlier port before those of a
-- later one; the requests of ends and the closings stand behind each first arrival and each device
-- that goes down, those of an earlier port before those of a later one.
pub record IsOrdered (ports : List ℕ) (told : ℕ → List Kind) (h : List Entry) : Type 0 where
  pub marks : List Marked
  pub entries : map (λ (m : Marked). m.entry) marks ≡ h
  pub kinds : (port : ℕ) → flat_map (kinds_of port) marks ≡ told port
  pub early : Ascend (map (early_rank ports) marks)
  pub late : Ascend (flat_map (late_ranks ports) marks)

-- so it is of each queue
abbrev pub AreOrdered : ℕ → ScriptValue → (ℕ → List Note) → List Entry → Type 0
AreOrdered workers script notes es =
    (queue : ℕ) → queue < queue_count →
    IsOrdered script.ports (λ port. kinds_told workers script queue port (notes port))
    (history queue es)
