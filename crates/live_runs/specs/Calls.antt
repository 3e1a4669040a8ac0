-- What the calls of a plane do to a pass, place by place.
use Rattle.std.specs.Prelude.{◌≡◌, ◌≢◌, ◌≤◌, ◌<◌, ℕ, Bool, List, [], ◌∷◌, ◌++◌}
use Rattle.packet_entry.specs.declared.packet.Card.{Card}
use Rattle.nfqa_msgs.specs.declared.request.Request.{Request}
use Rattle.hook_chain.specs.declared.chain.Decision.{Decision}
use Rattle.hook_chain.specs.declared.chain.Next.{Next}
use Rattle.hook_chain.specs.declared.chain.Next.TheVariants.{Released, To}
use Rattle.queue_core.specs.declared.event.Event.{Event}
use Rattle.queue_core.specs.declared.event.Event.TheVariants.{Arrive, Ask, PortClosed, DeviceDown}
use Rattle.histories.specs.declared.entry.Entry.{Entry}
use Rattle.histories.specs.States.{step_of, entry_of}
use Rattle.histories.specs.Happenings.{queue_of, all_handed, closings, downs}
use Rattle.histories.specs.Places.{place_for}
use Rattle.run_parts.specs.Requests.{errno_in}
use Rattle.live_runs.specs.Seen.{Seen, Shares, entries, all_ours, all_theirs, Grows}

-- One turn at a place: the pass finds what it had seen and what others have appended since, and
-- appends these.
pub record IsTurn (others mine : List Entry) (old new : List Seen) : Type 0 where
  pub is : new ≡ (old ++ all_theirs others) ++ all_ours mine

-- ---- a request

-- an arrival of a packet that was queued before
abbrev pub IsLaterEvent : Event → Type 0
IsLaterEvent (Arrive card bypass room) = 2 ≤ card.visit
IsLaterEvent (Ask port call request) = ⊥
IsLaterEvent (PortClosed port) = ⊥
IsLaterEvent (DeviceDown device) = ⊥

abbrev pub IsLater : Entry → Type 0
IsLater e = IsLaterEvent e.event

-- what may come of packets that are handed on: later arrivals, and nothing where there is none
abbrev pub IsHandedOn : List (Card × Decision) → Entry → Type 0
IsHandedOn [] e = ⊥
IsHandedOn (h ∷ hs) e = IsLater e

-- the place of the queue that a request names
abbrev pub place_of : ℕ → Request → ℕ
place_of places r = place_for (queue_of r) places

-- the list that a request finds there
abbrev pub found_by : ℕ → Request → Shares → List Entry → List Entry
found_by places r old others = entries (old (place_of places r)) ++ others

-- the entry of a port's request behind these
abbrev pub asked : ℕ → ℕ → Request → List Entry → Entry
asked port call r before = entry_of before (queue_of r) (Ask port call r)

-- the packets that it hands on
abbrev pub handed_by : ℕ → ℕ → Request → List Entry → List (Card × Decision)
handed_by port call r before = all_handed (step_of before (queue_of r) (Ask port call r)).left

-- A request of the pass's port: one turn at its queue's place, with its entry; then, at any place,
-- the arrivals of the packets that it hands on.
pub record Asks (places port call : ℕ) (r : Request) (errno : ℕ) (old new : Shares) : Type 0 where
  pub others : List Entry
  pub between : List Seen
  pub turn : IsTurn others (asked port call r (found_by places r old others) ∷ [])
      (old (place_of places r)) between
  pub errno_is : errno ≡ errno_in (asked port call r (found_by places r old others)).reply
  pub here : Grows (IsHandedOn (handed_by port call r (found_by places r old others))) between
      (new (place_of places r))
  pub elsewhere : (k : ℕ) → k ≢ place_of places r →
      Grows (IsHandedOn (handed_by port call r (found_by places r old others))) (old k) (new k)

-- ---- what is fed

-- the first arrival of a packet at a queue, by this table
abbrev pub entering : ℕ → Bool → Card → Bool → Event
entering table bypass card room =
    Arrive (record card { visit = 1; table = table }) bypass room

-- A packet enters: one turn at its queue's place, with its first arrival; then, at any place,
-- its later ones.
pub record Enters (places queue table : ℕ) (bypass : Bool) (card : Card) (old new : Shares)
    : Type 0 where
  pub others : List Entry
  pub room : Bool
  pub between : List Seen
  pub turn : IsTurn others
      (entry_of (entries (old (place_for queue places)) ++ others) queue
      (entering table bypass card room)
      ∷ []) (old (place_for queue places)) between
  pub here : Grows IsLater between (new (place_for queue places))
  pub elsewhere : (k : ℕ) → k ≢ place_for queue places → Grows IsLater (old k) (new k)

-- a packet is fed, by its way: nothing happens where it meets no queue
abbrev pub Feeds : ℕ → Next → Card → Shares → Shares → Type 0
Feeds places Released card old new = (k : ℕ) → new k ≡ old k
Feeds places (To queue bypass table) card old new = Enters places queue table bypass card old new

-- a device goes down where this was seen
pub record FallsAt (device : ℕ) (old new : List Seen) : Type 0 where
  pub others : List Entry
  pub turn : IsTurn others (downs device (entries old ++ others)) old new

-- a device goes down at a place
pub record Falls (device place : ℕ) (old new : Shares) : Type 0 where
  pub others : List Entry
  pub turn : IsTurn others (downs device (entries (old place) ++ others)) (old place) (new place)
  pub elsewhere : (k : ℕ) → k ≢ place → new k ≡ old k

-- ---- a closing

-- a port closes at a place
pub record ShutsAt (port : ℕ) (old new : List Seen) : Type 0 where
  pub others : List Entry
  pub turn : IsTurn others (closings port (entries old ++ others)) old new

-- so it does at all places
abbrev pub ShutsAll : ℕ → ℕ → Shares → Shares → Type 0
ShutsAll places port old new = (k : ℕ) → k < places → ShutsAt port (old k) (new k)
