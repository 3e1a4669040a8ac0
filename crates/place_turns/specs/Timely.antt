-- What passes keep of times, call by call: nothing that they have seen is later than their clock,
-- and each entry of their own is later than what it rests on.
use Rattle.std.specs.Prelude.{◌≡◌, ◌<◌, ◌≤◌, ℕ, suc, List, [], ◌∷◌, length, take, slice_get}
use Rattle.std.specs.Prelude.{Option, Some, None}
use mathlib.Core.List.{IsPrefix}
use Rattle.mailbox.specs.declared.view.Post.{Post}
use Rattle.turn_lock.specs.Places.{In}
use Rattle.queue_core.specs.declared.event.Event.{Event}
use Rattle.queue_core.specs.declared.event.Event.TheVariants.{Arrive, Ask, PortClosed, DeviceDown}
use Rattle.histories.specs.declared.entry.Entry.{Entry}
use Rattle.histories.specs.declared.log.Did.{Did}
use Rattle.histories.specs.declared.log.Did.TheVariants.{Received, Sent, Closed}
use Rattle.total_order.specs.Orders.{EachIs, untimed}
use Rattle.total_order.specs.Steps.{HasCome, IsSent, InLogOrderAs}
use Rattle.place_rows.specs.Rows.{TimedKnown}

-- ---- who has the passes

-- the port that they are of, if they are a port's; what the port did; and the letters that it
-- received
pub record Holder : Type 0 where
  pub port : Option ℕ
  pub dids : List Did
  pub heard : List Post

-- who feeds
abbrev pub feeder : Holder
feeder = record { port = None; dids = []; heard = [] }

abbrev pub port_with : ℕ → List Did → List Post → Holder
port_with port dids heard = record { port = Some port; dids = dids; heard = heard }

-- ---- what was seen

-- of all that was seen of one place it is so
pub record HasSeen (row : List TimedKnown) (Q : List Entry → Type 0) : Type 0 where
  pub place : ℕ
  pub pass : TimedKnown
  pub there : slice_get row place ≡ Some pass
  pub so : Q (untimed pass.seen)

-- it is so of a beginning of what was seen of one place, all of which is earlier than this time
pub record HasSeenBefore (row : List TimedKnown) (time : ℕ) (Q : List Entry → Type 0) : Type 0
  where
    pub place : ℕ
    pub pass : TimedKnown
    pub there : slice_get row place ≡ Some pass
    pub front : List (Entry × ℕ)
    pub begins : IsPrefix front pass.seen
    pub early : EachIs (λ x. x.1 < time) front
    pub so : Q (untimed front)

-- each notice received among these is one of these letters, in their order, and the letter's time
-- is earlier than this
abbrev pub AreEarly : ℕ → List Did → List Post → Type 0
AreEarly time [] ps = Unit {0}
AreEarly time (Received queue number visit ∷ ds) [] = ⊥
AreEarly time (Received queue number visit ∷ ds) (p ∷ ps) =
    (p.letter.queue ≡ queue) × (p.letter.number ≡ number) × (p.letter.visit ≡ visit)
    × (p.time < time) × AreEarly time ds ps
AreEarly time (Sent call ask answer ∷ ds) ps = AreEarly time ds ps
AreEarly time (Closed ∷ ds) ps = AreEarly time ds ps

-- how many notices were received
abbrev pub receipts : List Did → ℕ
receipts [] = 0
receipts (Received queue number visit ∷ ds) = suc (receipts ds)
receipts (Sent call ask answer ∷ ds) = receipts ds
receipts (Closed ∷ ds) = receipts ds

-- and there are no other letters
abbrev pub AreAllEarly : ℕ → List Did → List Post → Type 0
AreAllEarly time ds ps = AreEarly time ds ps × (length ps ≡ receipts ds)

-- ---- entries of their own

-- this is an entry of their own: at this place, with this number in the place's list
pub record IsOwn (row : List TimedKnown) (place number : ℕ) (x : Entry × ℕ) : Type 0 where
  pub pass : TimedKnown
  pub there : slice_get row place ≡ Some pass
  pub own : In number pass.own
  pub is : slice_get pass.seen number ≡ Some x

-- What an event of their own at a time rests on was earlier: the packet's leaving; the letters that
-- the port had received when it sent the request, whose message has this position in its log, and
-- when it closed.
abbrev pub RestsOn : List TimedKnown → Holder → ℕ → ℕ → Event → Type 0
RestsOn row h time at (Arrive card bypass room) =
    HasSeenBefore row time (HasCome card.number card.visit)
RestsOn row h time at (Ask port call request) =
    (h.port ≡ Some port) × (at < length h.dids) × IsSent call (slice_get h.dids at)
    × AreEarly time (take at h.dids) h.heard
RestsOn row h time at (PortClosed port) = (h.port ≡ Some port) × AreEarly time h.dids h.heard
RestsOn row h time at (DeviceDown device) = Unit {0}

-- What passes keep. The positions are those of requests' messages in the port's log.
pub record AreTimely (clock : ℕ) (row : List TimedKnown) (h : Holder) : Type 0 where
  pub late : (k : ℕ) (v : TimedKnown) → slice_get row k ≡ Some v → EachIs (λ x. x.1 ≤ clock) v.seen
  pub told : AreAllEarly (suc clock) h.dids h.heard
  pub position : ℕ → ℕ → ℕ
  pub own : (k i : ℕ) (x : Entry × ℕ) → IsOwn row k i x →
      RestsOn row h x.1 (position k i) x.0.event
  -- of two of them the one that isn't later may come before the other, as the port's log goes
  pub kept : (k i j l : ℕ) (x y : Entry × ℕ) → IsOwn row k i x → IsOwn row j l y →
      ((k ≡ j) × (i ≡ l) → ⊥) → x.1 ≤ y.1 →
      InLogOrderAs x.0.event (position k i) y.0.event (position j l)

-- the event is no port's closing
abbrev pub IsNoClosing : Event → Type 0
IsNoClosing (Arrive card bypass room) = Unit {0}
IsNoClosing (Ask port call request) = Unit {0}
IsNoClosing (PortClosed port) = ⊥
IsNoClosing (DeviceDown device) = Unit {0}

-- and while nothing has closed
pub record AreTimelyOpen (clock : ℕ) (row : List TimedKnown) (h : Holder) : Type 0 where
  pub timely : AreTimely clock row h
  pub none_closed : (k i : ℕ) (x : Entry × ℕ) → IsOwn row k i x → IsNoClosing x.0.event
