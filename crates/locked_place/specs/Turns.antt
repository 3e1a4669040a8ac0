-- Turns at a place.
use Rattle.std.specs.Prelude.{◌≡◌, ℕ, length, List, [], ◌∷◌, ◌++◌, Bool, true}
use Rattle.std.specs.Prelude.{Option, Some, IsSome}
use mathlib.Core.List.{IsPrefix}
use Rattle.packet_entry.specs.declared.packet.Card.{Card}
use Rattle.hook_chain.specs.declared.chain.Decision.{Decision}
use Rattle.nfqa_msgs.specs.declared.request.Request.{Request}
use Rattle.queue_core.specs.declared.event.Event.TheVariants.{Ask}
use Rattle.queue_core.specs.declared.event.Reply.TheVariants.{Answer}
use Rattle.queue_core.specs.Step.{is_decided_early}
use Rattle.histories.specs.declared.entry.Entry.{Entry}
use Rattle.histories.specs.History.{AreLegal}
use Rattle.histories.specs.Journeys.{Arrival}
use Rattle.histories.specs.States.{state_of, step_of, entry_of, told, taken_in}
use Rattle.histories.specs.Happenings.{arrive, queue_of, all_handed, closings, downs}
use Rattle.mailbox.specs.Views.{SenderView}
use Rattle.place_history.specs.Calls.{IsTaken, IsTurnedAway}
use Rattle.turn_lock.specs.declared.view.View.{View}
use Rattle.turn_lock.specs.declared.view.Turn.TheVariants.{Outside}
use Rattle.turn_lock.specs.Places.{places_after}
use Rattle.locked_place.specs.declared.arrivals.Placed.{Placed}
use Rattle.locked_place.specs.declared.arrivals.Placed.TheVariants.{Waiting, Back}
use Rattle.locked_place.specs.Times.{plain_view, TakesTime}
use Rattle.locked_place.specs.Views.{port_at}

-- ---- what happens in one

-- an arrival's packet waits, and its notice went to the port that its queue is bound to
pub record IsPosted (a : Arrival) (room : Bool) (port : ℕ) (es : List Entry) : Type 0 where
  pub id : ℕ
  pub taken : IsTaken a room id es
  pub to_port : port_at es a.queue ≡ Some port

-- where its packet is then
abbrev pub PlacesAs : Placed → Arrival → Bool → List Entry → Type 0
PlacesAs (Waiting port) a room es = IsPosted a room port es
PlacesAs (Back outcome back) a room es = IsTurnedAway a room outcome back es

-- where its notice went to a port, this has a sender
abbrev pub HasSender : (ℕ → Option SenderView) → Placed → Type 0
HasSender senders (Waiting port) = IsSome (senders port)
HasSender senders (Back outcome back) = Unit {0}

-- A packet arrives, with room or without, and waits or comes back. Where no notice is offered there
-- is room.
pub record Arrives (a : Arrival) (before after : List Entry) (placed : Placed) : Type 0 where
  pub room : Bool
  pub early : is_decided_early (state_of before a.queue) a.card ≡ true → room ≡ true
  pub places : PlacesAs placed a room before
  pub entered : after ≡ before ++ entry_of before a.queue (arrive a room) ∷ []

-- A port asks something of a queue, and this errno is answered.
pub record Asks (port call : ℕ) (request : Request) (before after : List Entry) (errno : ℕ)
    : Type 0 where
  pub reply : (step_of before (queue_of request) (Ask port call request)).reply
      ≡ Answer errno (length (step_of before (queue_of request) (Ask port call request)).left)
  pub entered : after ≡ before ++ entry_of before (queue_of request) (Ask port call request) ∷ []

-- what a request hands out
abbrev pub handed_by : ℕ → ℕ → Request → List Entry → List (Card × Decision)
handed_by port call request before =
    all_handed (step_of before (queue_of request) (Ask port call request)).left

-- ---- turns under the lock

module _ {E S : Type 0} where
  -- what a pass knows once it took a turn, which found this list and left that one
  abbrev pub turned : View E S → List E → List E → View E S
  turned v before after =
      record {
        seen = after;
        own = v.own ++ places_after before after;
        part = v.part;
        origin = v.origin;
        turn = Outside;
      }

  -- a turn of a pass: it found a list that begins with what the pass had seen, and left a longer
  -- one
  pub record IsTurn (v : View E S) (before after : List E) (w : View E S) : Type 0 where
    pub begins : IsPrefix v.seen before
    pub grows : IsPrefix before after
    pub left : w ≡ turned v before after

module _ {S : Type 0} where
  -- nothing happened in the turn, but the pass has seen more
  pub record LooksOn (v w : View Entry S) : Type 0 where
    pub found : List Entry
    pub turn : IsTurn v found found w
    pub legal : AreLegal found

  -- a packet arrived in the turn
  pub record ArrivesIn (a : Arrival) (v w : View Entry S) (placed : Placed) : Type 0 where
    pub found : List Entry
    pub then_ : List Entry
    pub turn : IsTurn v found then_ w
    pub arrives : Arrives a found then_ placed
    pub legal : AreLegal then_

  -- a port asked something in the turn, and these packets were handed out
  pub record AsksIn (port call : ℕ) (request : Request) (v w : View Entry S) (errno : ℕ)
      (handed : List (Card × Decision)) : Type 0 where
    pub found : List Entry
    pub then_ : List Entry
    pub turn : IsTurn v found then_ w
    pub asks : Asks port call request found then_ errno
    pub legal : AreLegal then_
    pub handed_out : handed ≡ handed_by port call request found

  -- a port closed in the turn, and so many packets were destroyed
  pub record ClosesIn (port : ℕ) (v w : View Entry S) (count : ℕ) : Type 0 where
    pub found : List Entry
    pub turn : IsTurn v found (found ++ closings port found) w
    pub legal : AreLegal (found ++ closings port found)
    pub counted : count ≡ told (taken_in (closings port found))

  -- a device went down in the turn, and so many packets were destroyed
  pub record GoesDownIn (device : ℕ) (v w : View Entry S) (count : ℕ) : Type 0 where
    pub found : List Entry
    pub turn : IsTurn v found (found ++ downs device found) w
    pub legal : AreLegal (found ++ downs device found)
    pub counted : count ≡ told (taken_in (downs device found))

-- ---- the same turns, with the time at which each took place

module _ {S : Type 0} where
  pub record TimedLook (clock time : ℕ) (v w : View (Entry × ℕ) S) : Type 0 where
    pub plain : LooksOn (plain_view v) (plain_view w)
    pub in_time : TakesTime clock time v w plain.found plain.found

  pub record TimedArrival (clock time : ℕ) (a : Arrival) (v w : View (Entry × ℕ) S)
      (placed : Placed) : Type 0 where
    pub plain : ArrivesIn a (plain_view v) (plain_view w) placed
    pub in_time : TakesTime clock time v w plain.found plain.then_

  pub record TimedRequest (clock time port call : ℕ) (request : Request)
      (v w : View (Entry × ℕ) S) (errno : ℕ) (handed : List (Card × Decision)) : Type 0 where
    pub plain : AsksIn port call request (plain_view v) (plain_view w) errno handed
    pub in_time : TakesTime clock time v w plain.found plain.then_

  pub record TimedClosing (clock time port : ℕ) (v w : View (Entry × ℕ) S) (count : ℕ) : Type 0
    where
      pub plain : ClosesIn port (plain_view v) (plain_view w) count
      pub in_time : TakesTime clock time v w plain.found (plain.found ++ closings port plain.found)

  pub record TimedDown (clock time device : ℕ) (v w : View (Entry × ℕ) S) (count : ℕ) : Type 0
    where
      pub plain : GoesDownIn device (plain_view v) (plain_view w) count
      pub in_time : TakesTime clock time v w plain.found (plain.found ++ downs device plain.found)
