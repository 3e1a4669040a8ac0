-- The calls of one place, as turns of a row with their times: what was seen then, and that the row
-- stays timely.
use Rattle.std.proofs.Common.{◌≡◌, ℕ, List, [], ◌∷◌, ◌++◌, Option, Some, None}
use Rattle.std.proofs.Common.{refl, sym, ap, subst, ◌∙◌}
use Rattle.std.proofs.Common.{append-nil}
use Rattle.std.specs.Prelude.{slice_get, flat_map, ◌==◌, if◌then◌else◌, Bool, true, false}
use Rattle.mailbox.specs.declared.view.Post.{Post}
use Rattle.packet_entry.specs.declared.packet.Card.{Card}
use Rattle.hook_chain.specs.declared.chain.Decision.{Decision}
use Rattle.nfqa_msgs.specs.declared.request.Request.{Request}
use Rattle.queue_core.specs.State.{Bound}
use Rattle.queue_core.specs.declared.event.Event.{Event}
use Rattle.queue_core.specs.declared.event.Event.TheVariants.{Ask, PortClosed, DeviceDown}
use Rattle.turn_lock.specs.Views.{HasSeenOwn}
use Rattle.histories.specs.declared.entry.Entry.{Entry}
use Rattle.histories.specs.declared.log.AskWords.{AskWords}
use Rattle.histories.specs.declared.log.Did.{Did}
use Rattle.histories.specs.declared.log.Did.TheVariants.{Sent}
use Rattle.histories.specs.Happenings.{arrive, queue_of, closing_of, down_of}
use Rattle.histories.specs.Happenings.{closings, downs}
use Rattle.histories.specs.Journeys.{Arrival}
use Rattle.histories.specs.States.{entry_of, entry_in, state_of, every_number}
use Rattle.total_order.specs.Orders.{untimed}
use Rattle.locked_place.specs.declared.arrivals.Placed.{Placed}
use Rattle.locked_place.specs.declared.arrivals.Placed.TheVariants.{Waiting, Back}
use Rattle.locked_place.specs.Times.{plain_view}
use Rattle.locked_place.specs.Turns.{TimedLook, TimedArrival, TimedRequest, TimedClosing}
use Rattle.locked_place.specs.Turns.{TimedDown, IsTurn, PlacesAs}
use Rattle.place_rows.specs.Rows.{Known, TimedKnown, TurnsOne}
use Rattle.place_turns.specs.Departures.{HasSeenCome, HasSeenLeave, HasSeenBack, HaveSeenAll}
use Rattle.place_turns.specs.Departures.{SeeOn}
use Rattle.place_turns.specs.Timely.{Holder, AreTimely, AreTimelyOpen, port_with}
use Rattle.place_turns.proofs.OwnEntries.{each_append}
use Rattle.place_turns.proofs.Departures.{seen_alone, handed_all_seen}
use Rattle.place_turns.proofs.TimelyTurns.{TimedTurn, timed_turn, sees_on, there}
use Rattle.place_turns.proofs.TimelyCalls.{AreEvents, looked_open, arrived_open, asked_open}
use Rattle.place_turns.proofs.TimelyCalls.{closed_so, down_open}

-- ---- events of a port that closes and of a device that goes down

closing_events : (port queue : ℕ) (q : Option Bound) →
    AreEvents (PortClosed port) (closing_of port queue q)
closing_events port queue None = tt
closing_events port queue (Some b) = by_port (b.port == port)
  where
    by_port : (own : Bool) → AreEvents (PortClosed port)
        (if own then entry_in queue (Some b) (PortClosed port) ∷ [] else [])
    by_port true = (refl, tt)
    by_port false = tt

down_events : (device queue : ℕ) (q : Option Bound) →
    AreEvents (DeviceDown device) (down_of device queue q)
down_events device queue None = tt
down_events device queue (Some b) = (refl, tt)

all_events : (event : Event) (f : ℕ → List Entry) → ((n : ℕ) → AreEvents event (f n)) →
    (ns : List ℕ) → AreEvents event (flat_map f ns)
all_events event f each [] = tt
all_events event f each (n ∷ ns) =
    each_append (λ (e : Entry). e.event ≡ event) (f n) (flat_map f ns) (each n)
    (all_events event f each ns)

closings_events : (port : ℕ) (es : List Entry) → AreEvents (PortClosed port) (closings port es)
closings_events port es =
    all_events (PortClosed port) (λ q. closing_of port q (state_of es q))
    (λ q. closing_events port q (state_of es q)) every_number

downs_events : (device : ℕ) (es : List Entry) → AreEvents (DeviceDown device) (downs device es)
downs_events device es =
    all_events (DeviceDown device) (λ q. down_of device q (state_of es q))
    (λ q. down_events device q (state_of es q)) every_number

-- ---- what a turn left, without times

left_seen : (v w : TimedKnown) (found after : List Entry) →
    IsTurn (plain_view v) found after (plain_view w) → untimed w.seen ≡ after
left_seen v w found after turn = ap (λ (x : Known). x.seen) turn.left

module _ (clock time place : ℕ) (row news : List TimedKnown) where
  -- a turn, as one in which these entries were appended
  abbrev appends : (T : TimedKnown → TimedKnown → Type 0) (fs : List Entry)
      (one : TurnsOne place row news T) → TimedTurn clock time one.before one.after fs →
      TurnsOne place row news (λ v w. TimedTurn clock time v w fs)
  appends T fs one turn =
      record {
        before = one.before;
        after = one.after;
        had = one.had;
        has = one.has;
        turns = turn;
      }

  -- ---- a look

  module _ (one : TurnsOne place row news (TimedLook clock time)) where
    abbrev look_one : TurnsOne place row news (λ v w. TimedTurn clock time v w [])
    look_one =
        let t = one.turns in
        appends (TimedLook clock time) [] one
        (timed_turn clock time one.before one.after t.plain.found t.plain.found [] t.plain.turn
        t.in_time (sym (append-nil t.plain.found)))

    pub look_sees : SeeOn row news
    look_sees = sees_on clock time place row news [] look_one

    pub look_timely : ((k : ℕ) (v : TimedKnown) → slice_get row k ≡ Some v → HasSeenOwn v) →
        (h : Holder) → AreTimelyOpen clock row h → AreTimelyOpen time news h
    look_timely placed h is = looked_open clock time place row news placed look_one h is

  -- ---- an arrival

  module _ (a : Arrival) (done : Placed)
      (one : TurnsOne place row news (λ v w. TimedArrival clock time a v w done)) where
    abbrev arrival_entry : Entry
    arrival_entry =
        entry_of one.turns.plain.found a.queue (arrive a one.turns.plain.arrives.room)

    abbrev arrival_one : TurnsOne place row news
        (λ v w. TimedTurn clock time v w (arrival_entry ∷ []))
    arrival_one =
        let t = one.turns in
        appends (λ v w. TimedArrival clock time a v w done) (arrival_entry ∷ []) one
        (timed_turn clock time one.before one.after t.plain.found t.plain.then_
        (arrival_entry ∷ []) t.plain.turn t.in_time t.plain.arrives.entered)

    pub arrival_sees : SeeOn row news
    arrival_sees = sees_on clock time place row news (arrival_entry ∷ []) arrival_one

    pub arrival_timely : ((k : ℕ) (v : TimedKnown) → slice_get row k ≡ Some v → HasSeenOwn v) →
        (h : Holder) → HasSeenCome row a.card.number a.card.visit → AreTimelyOpen clock row h →
        AreTimelyOpen time news h
    arrival_timely placed h seen is =
        arrived_open clock time place row news placed arrival_entry arrival_one h a.card a.bypass
        one.turns.plain.arrives.room refl seen is

    -- a packet that came back was seen to leave
    pub arrival_seen : HasSeenBack news done
    arrival_seen = by done one.turns.plain.arrives.places
      where
        by : (d : Placed) → PlacesAs d a one.turns.plain.arrives.room one.turns.plain.found →
            HasSeenBack news d
        by (Waiting port) posted = tt
        by (Back outcome card) back =
            let t = one.turns in
            subst (λ (x : Card). HasSeenLeave news x.number x.visit) (sym back.same)
            (seen_alone news place one.after
            (there clock time place row news (arrival_entry ∷ []) arrival_one) t.plain.found
            a.queue (arrive a t.plain.arrives.room)
            (left_seen one.before one.after t.plain.found t.plain.then_ t.plain.turn
            ∙ t.plain.arrives.entered) a.card back.way back.leaves)

  -- ---- a request

  module _ (port call : ℕ) (request : Request) (errno : ℕ) (handed : List (Card × Decision))
      (one : TurnsOne place row news
      (λ v w. TimedRequest clock time port call request v w errno handed)) where
    abbrev request_entry : Entry
    request_entry = entry_of one.turns.plain.found (queue_of request) (Ask port call request)

    abbrev request_one : TurnsOne place row news
        (λ v w. TimedTurn clock time v w (request_entry ∷ []))
    request_one =
        let t = one.turns in
        appends (λ v w. TimedRequest clock time port call request v w errno handed)
        (request_entry ∷ []) one
        (timed_turn clock time one.before one.after t.plain.found t.plain.then_
        (request_entry ∷ []) t.plain.turn t.in_time t.plain.asks.entered)

    pub request_timely : ((k : ℕ) (v : TimedKnown) → slice_get row k ≡ Some v → HasSeenOwn v) →
        (dids : List Did) (heard : List Post) (words : AskWords) (answer : Option ℕ) →
        AreTimelyOpen clock row (port_with port dids heard) →
        AreTimelyOpen time news (port_with port (dids ++ Sent call words answer ∷ []) heard)
    request_timely placed dids heard words answer is =
        asked_open clock time place row news placed request_entry request_one port call request
        refl dids heard words answer is

    -- what is handed out was seen to leave
    pub request_seen : HaveSeenAll news handed
    request_seen =
        let t = one.turns in
        subst (HaveSeenAll news) (sym t.plain.handed_out)
        (handed_all_seen news place one.after
        (there clock time place row news (request_entry ∷ []) request_one) t.plain.found
        (queue_of request) (Ask port call request)
        (left_seen one.before one.after t.plain.found t.plain.then_ t.plain.turn
        ∙ t.plain.asks.entered))

  -- ---- a port that closes, and a device that goes down

  pub closing_timely : (port count : ℕ) →
      TurnsOne place row news (λ v w. TimedClosing clock time port v w count) →
      ((k : ℕ) (v : TimedKnown) → slice_get row k ≡ Some v → HasSeenOwn v) →
      (h : Holder) → h.port ≡ Some port → AreTimely clock row h → AreTimely time news h
  closing_timely port count one placed h of is =
      let t = one.turns in
      closed_so clock time place row news placed (closings port t.plain.found)
      (appends (λ v w. TimedClosing clock time port v w count) (closings port t.plain.found) one
      (timed_turn clock time one.before one.after t.plain.found
      (t.plain.found ++ closings port t.plain.found) (closings port t.plain.found) t.plain.turn
      t.in_time refl)) h port (closings_events port t.plain.found) of is

  pub down_timely : (device count : ℕ) →
      TurnsOne place row news (λ v w. TimedDown clock time device v w count) →
      ((k : ℕ) (v : TimedKnown) → slice_get row k ≡ Some v → HasSeenOwn v) →
      (h : Holder) → AreTimelyOpen clock row h → AreTimelyOpen time news h
  down_timely device count one placed h is =
      let t = one.turns in
      down_open clock time place row news placed (downs device t.plain.found)
      (appends (λ v w. TimedDown clock time device v w count) (downs device t.plain.found) one
      (timed_turn clock time one.before one.after t.plain.found
      (t.plain.found ++ downs device t.plain.found) (downs device t.plain.found) t.plain.turn
      t.in_time refl)) h device (downs_events device t.plain.found) is
