-- For proofs alone: ports that closed.
use Rattle.std.specs.Prelude.{◌≡◌, ◌<◌, ◌++◌, ◌∷◌, ℕ, Bool, true, false, not, ◌&&◌, ◌||◌, List, []}
use Rattle.std.specs.Prelude.{nat_eq, Option, Some, None, if◌then◌else◌}
use Rattle.std.specs.BTreeMap.{BTreeMap, get, is_at}
use Rattle.std.specs.Ordering.{nat_cmp}
use Rattle.std.specs.List.{list_any}
use Rattle.std.specs.Prelude.{Vec}
use Rattle.std.specs.declared.alloc.Global.{Global}
use Rattle.queue_core.specs.State.{Bound}
use Rattle.queue_core.specs.declared.event.Event.{Event}
use Rattle.queue_core.specs.declared.event.Event.TheVariants.{Arrive, Ask, PortClosed, DeviceDown}
use Rattle.histories.specs.Numbers.{queue_count}
use Rattle.histories.specs.declared.entry.Entry.{Entry}
use Rattle.histories.specs.declared.log.PortLog.{PortLog}
use Rattle.histories.specs.History.{history}
use Rattle.run_parts.specs.Closing.{is_closed, IsClosing}
use Rattle.run_parts.specs.Closing.{is_bound_to}
use Rattle.port_audit.specs.Told.{dids_of}

-- whether the log of a port has its closing
abbrev pub has_closed : List PortLog → ℕ → Bool
has_closed logs port = list_any is_closed (dids_of port logs)

abbrev pub is_in : List ℕ → ℕ → Bool
is_in ports port = list_any (nat_eq port) ports

-- each of these ports closed, or didn't, in each queue's history as is said of it
abbrev pub AllShut : List ℕ → List ℕ → List Entry → Type 0
AllShut ports closed es = (port : ℕ) → is_in ports port ≡ true →
    (queue : ℕ) → queue < queue_count → IsClosing port (is_in closed port) (history queue es)

-- ---- the ports that closed at each queue so far

abbrev pub ShutMap : Type 0
ShutMap = BTreeMap ℕ (Vec ℕ Global)

abbrev pub shut_in : Option (Vec ℕ Global) → List ℕ
shut_in None = []
shut_in (Some v) = v.items

abbrev pub shut_at : ShutMap → ℕ → List ℕ
shut_at shut queue = shut_in (get nat_cmp shut queue)

-- an event doesn't fit the ports that closed, and those that closed at its queue so far
abbrev pub breaks : List ℕ → List ℕ → List ℕ → Event → Bool
breaks ports closed shut (Arrive card bypass room) = false
breaks ports closed shut (Ask port call request) = is_in ports port && is_in shut port
breaks ports closed shut (PortClosed port) =
    is_in ports port && (not (is_in closed port) || is_in shut port)
breaks ports closed shut (DeviceDown device) = false

-- the port that closes in an event, where it is one of these
abbrev pub closing_in : List ℕ → Event → List ℕ
closing_in ports (Arrive card bypass room) = []
closing_in ports (Ask port call request) = []
closing_in ports (PortClosed port) = if is_in ports port then port ∷ [] else []
closing_in ports (DeviceDown device) = []

-- the other queues stay as they were
abbrev pub KeepsOthers : ℕ → ShutMap → ShutMap → Type 0
KeepsOthers queue old new = (q : ℕ) → is_at (nat_cmp queue) q ≡ false →
    get nat_cmp new q ≡ get nat_cmp old q

-- a closing is noted
pub record Notes (ports : List ℕ) (old new : ShutMap) (e : Entry) : Type 0 where
  pub own : shut_at new e.queue ≡ shut_at old e.queue ++ closing_in ports e.event
  pub others : KeepsOthers e.queue old new

-- ---- ends

-- a queue is bound to none of the ports that closed
abbrev pub EndsWell : List ℕ → List ℕ → Option Bound → Type 0
EndsWell ports closed q = (port : ℕ) → is_in ports port ≡ true → is_in closed port ≡ true →
    is_bound_to port q ≡ false

abbrev pub ends_badly : List ℕ → List ℕ → Option ℕ → Bool
ends_badly ports closed None = false
ends_badly ports closed (Some port) = is_in ports port && is_in closed port
