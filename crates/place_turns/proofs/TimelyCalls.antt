-- Passes stay timely, turn by turn: an arrival, a request, a port that closes, a device that goes
-- down, and a look.
use Rattle.std.proofs.Common.{◌≡◌, ◌<◌, ◌≤◌, ℕ, zero, suc, List, [], ◌∷◌, ◌++◌, length, Option}
use Rattle.std.proofs.Common.{refl, sym, subst, arith, Some, Bool, append-nil, length-append}
use Rattle.std.specs.Prelude.{slice_get}
use Rattle.std.proofs.lemmas.Option.{slice_get_within}
use Rattle.packet_entry.specs.declared.packet.Card.{Card}
use Rattle.mailbox.specs.declared.view.Post.{Post}
use Rattle.nfqa_msgs.specs.declared.request.Request.{Request}
use Rattle.queue_core.specs.declared.event.Event.{Event}
use Rattle.queue_core.specs.declared.event.Event.TheVariants.{Arrive, Ask, PortClosed, DeviceDown}
use Rattle.turn_lock.specs.Views.{HasSeenOwn}
use Rattle.histories.specs.declared.entry.Entry.{Entry}
use Rattle.histories.specs.declared.log.AskWords.{AskWords}
use Rattle.histories.specs.declared.log.Did.{Did}
use Rattle.histories.specs.declared.log.Did.TheVariants.{Sent}
use Rattle.total_order.specs.Orders.{EachIs}
use Rattle.total_order.specs.Steps.{HasCome, InLogOrderAs}
use Rattle.place_rows.specs.Rows.{TimedKnown, TurnsOne}
use Rattle.place_turns.specs.Departures.{HasSeenCome}
use Rattle.place_turns.specs.Timely.{Holder, HasSeenBefore, RestsOn, AreEarly, AreTimely}
use Rattle.place_turns.specs.Timely.{AreTimelyOpen, IsNoClosing, port_with}
use Rattle.place_turns.proofs.PassTurns.{some_same}
use Rattle.place_turns.proofs.EarlyLetters.{all_are_early, all_later, all_sent, sent_last}
use Rattle.place_turns.proofs.EarlyLetters.{front_all}
use Rattle.place_turns.proofs.OwnEntries.{each_map, rests_longer}
use Rattle.place_turns.proofs.TimelyTurns.{TimedTurn, sees_on, turned, still_open}

-- two things of one alone are the same
alone : {X : Type 0} (x d : X) (i : ℕ) → slice_get (x ∷ []) i ≡ Some d → i ≡ 0
alone x d i at = omega (arith, slice_get_within (x ∷ []) i d at)

-- an arrival may come after all
before_arrival : (event : Event) (at later : ℕ) (card : Card) (bypass room : Bool) →
    InLogOrderAs event at (Arrive card bypass room) later
before_arrival (Arrive c b r) at later card bypass room = tt
before_arrival (Ask port call request) at later card bypass room = tt
before_arrival (PortClosed port) at later card bypass room = tt
before_arrival (DeviceDown device) at later card bypass room = tt

before_closing : (event : Event) (at later port : ℕ) → InLogOrderAs event at (PortClosed port) later
before_closing (Arrive c b r) at later port = tt
before_closing (Ask by_ call request) at later port = tt
before_closing (PortClosed by_) at later port = tt
before_closing (DeviceDown device) at later port = tt

before_down : (event : Event) (at later device : ℕ) →
    InLogOrderAs event at (DeviceDown device) later
before_down (Arrive c b r) at later device = tt
before_down (Ask by_ call request) at later device = tt
before_down (PortClosed by_) at later device = tt
before_down (DeviceDown by_) at later device = tt

-- each of them is this event
abbrev pub AreEvents : Event → List Entry → Type 0
AreEvents event es = EachIs (λ (e : Entry). e.event ≡ event) es

module _ (clock time place : ℕ) (row news : List TimedKnown)
    (placed : (k : ℕ) (v : TimedKnown) → slice_get row k ≡ Some v → HasSeenOwn v) where
  -- ---- a look

  module _ (one : TurnsOne place row news (λ v w. TimedTurn clock time v w [])) (h : Holder) where
    looked : AreTimely clock row h → AreTimely time news h
    looked timely =
        let m = one.turns.later in
        turned clock time place row news [] one placed h h timely 0 (λ k i x own r. r) tt
        (λ k i x own. tt) (λ i j d e apart at also. absurd (cc at))
        (all_later (suc clock) (suc time) h.dids h.heard (omega (arith, m)) timely.told)

    pub looked_open : AreTimelyOpen clock row h → AreTimelyOpen time news h
    looked_open is = record {
      timely = looked is.timely;
      none_closed = still_open clock time place row news [] one placed tt is.none_closed;
    }

  -- ---- entries of one event, which nothing has to come after

  module _ (more : List Entry)
      (one : TurnsOne place row news (λ v w. TimedTurn clock time v w more))
      (h : Holder) (event : Event) (are : AreEvents event more)
      (rests : RestsOn news h time 0 event)
      (before : (first : Event) (at : ℕ) → InLogOrderAs first at event 0) where
    pub all_same : AreTimely clock row h → AreTimely time news h
    all_same timely =
        let m = one.turns.later in
        turned clock time place row news more one placed h h timely 0 (λ k i x own r. r)
        (each_map (λ (e : Entry). e.event ≡ event)
        (λ (e : Entry). RestsOn news h time 0 e.event) more
        (λ e is. subst (RestsOn news h time 0) (sym is) rests) are)
        (λ k i x own. each_map (λ (e : Entry). e.event ≡ event)
        (λ (e : Entry). InLogOrderAs x.0.event (timely.position k i) e.event 0) more
        (λ e is. subst (λ (y : Event). InLogOrderAs x.0.event (timely.position k i) y 0) (sym is)
        (before x.0.event (timely.position k i))) are)
        (λ i j d e apart at also. beside more are j d e also)
        (all_later (suc clock) (suc time) h.dids h.heard (omega (arith, m)) timely.told)
      where
        beside : (es : List Entry) → AreEvents event es → (j : ℕ) (d e : Entry) →
            slice_get es j ≡ Some e → InLogOrderAs d.event 0 e.event 0
        beside es so j d e also =
            subst (λ (y : Event). InLogOrderAs d.event 0 y 0)
            (sym (each_event es so j e also)) (before d.event 0)
          where
            each_event : (fs : List Entry) → AreEvents event fs → (l : ℕ) (f : Entry) →
                slice_get fs l ≡ Some f → f.event ≡ event
            each_event [] all l f there = absurd (cc there)
            each_event (g ∷ fs) all zero f there =
                subst (λ (y : Entry). y.event ≡ event) (some_same g f there) all.0
            each_event (g ∷ fs) all (suc l) f there = each_event fs all.1 l f there

    pub all_same_open : IsNoClosing event → AreTimelyOpen clock row h → AreTimelyOpen time news h
    all_same_open no_closing is = record {
      timely = all_same is.timely;
      none_closed = still_open clock time place row news more one placed
          (each_map (λ (e : Entry). e.event ≡ event) (λ (e : Entry). IsNoClosing e.event) more
          (λ e same. subst IsNoClosing (sym same) no_closing) are) is.none_closed;
    }

  -- ---- an arrival

  module _ (e : Entry) (one : TurnsOne place row news (λ v w. TimedTurn clock time v w (e ∷ [])))
      (h : Holder) (card : Card) (bypass room : Bool) (is_so : e.event ≡ Arrive card bypass room)
    where
      at_first : (Q : List Entry → Type 0) → Q [] → HasSeenBefore news time Q
      at_first Q so =
          let then_ = sees_on clock time place row news (e ∷ []) one place one.before one.had in
          record {
            place = place;
            pass = then_.after;
            there = then_.at;
            front = [];
            begins = (then_.after.seen, refl);
            early = tt;
            so = so;
          }

      come_so : AreTimely clock row h → (number visit : ℕ) → HasSeenCome row number visit →
          HasSeenBefore news time (HasCome number visit)
      come_so timely number zero seen = at_first (HasCome number zero) tt
      come_so timely number (suc zero) seen = at_first (HasCome number (suc zero)) tt
      come_so timely number (suc (suc visit)) seen =
          let then_ =
          sees_on clock time place row news (e ∷ []) one seen.place seen.pass seen.there in
          let m = one.turns.later in
          record {
            place = seen.place;
            pass = then_.after;
            there = then_.at;
            front = seen.pass.seen;
            begins = then_.turns;
            early = each_map (λ x. x.1 ≤ clock) (λ x. x.1 < time) seen.pass.seen
                (λ x l. omega (arith, l, m)) (timely.late seen.place seen.pass seen.there);
            so = seen.so;
          }

      pub arrived_open : HasSeenCome row card.number card.visit → AreTimelyOpen clock row h →
          AreTimelyOpen time news h
      arrived_open seen is =
          all_same_open (e ∷ []) one h (Arrive card bypass room) (is_so, tt)
          (come_so is.timely card.number card.visit seen)
          (λ first at. before_arrival first at 0 card bypass room) tt is

  -- ---- a request

  module _ (e : Entry) (one : TurnsOne place row news (λ v w. TimedTurn clock time v w (e ∷ [])))
      (port call : ℕ) (request : Request) (is_so : e.event ≡ Ask port call request)
      (dids : List Did) (heard : List Post) (words : AskWords) (answer : Option ℕ)
      (is : AreTimelyOpen clock row (port_with port dids heard)) where
    abbrev pub logged : List Did
    logged = dids ++ Sent call words answer ∷ []

    before_request : (first : Event) (time_then at : ℕ) →
        RestsOn row (port_with port dids heard) time_then at first → IsNoClosing first →
        InLogOrderAs first at (Ask port call request) (length dids)
    before_request (Arrive c b r) time_then at rests no_closing = tt
    before_request (Ask by_ c r) time_then at rests no_closing = λ same. rests.1
    before_request (PortClosed by_) time_then at rests no_closing = absurd no_closing
    before_request (DeviceDown device) time_then at rests no_closing = tt

    rests_so : RestsOn news (port_with port logged heard) time (length dids)
        (Ask port call request)
    rests_so =
        let m = one.turns.later in (
          refl,
          omega (arith, length-append dids (Sent call words answer ∷ [])),
          sent_last call words answer dids,
          subst (λ (ds : List Did). AreEarly time ds heard)
              (sym (front_all dids (Sent call words answer ∷ [])))
              (all_are_early (suc clock) time dids heard (omega (arith, m)) is.timely.told),
        )

    pub asked_open : AreTimelyOpen time news (port_with port logged heard)
    asked_open =
        let m = one.turns.later in
        record {
          timely = turned clock time place row news (e ∷ []) one placed (port_with port dids heard)
              (port_with port logged heard) is.timely (length dids)
              (λ k i x own r. subst (λ (ps : List Post). RestsOn news (record {
                port = Some port;
                dids = logged;
                heard = ps;
              }) x.1 (is.timely.position k i) x.0.event) (append-nil heard)
              (rests_longer news (Some port) dids (Sent call words answer ∷ []) heard [] x.1
              (is.timely.position k i) x.0.event (is.none_closed k i x own) r)) (
                subst (RestsOn news (port_with port logged heard) time (length dids)) (sym is_so)
                    rests_so,
                tt,
              )
              (λ k i x own. (
                subst (λ (y : Event).
                    InLogOrderAs x.0.event (is.timely.position k i) y (length dids)) (sym is_so)
                    (before_request x.0.event x.1 (is.timely.position k i) (is.timely.own k i x own)
                    (is.none_closed k i x own)),
                tt,
              ))
              (λ i j d f apart at also. absurd (apart
              (let one_is = alone e d i at in
              let other = alone e f j also in omega (arith, one_is, other))))
              (all_later (suc clock) (suc time) logged heard (omega (arith, m))
              (all_sent (suc clock) call words answer dids heard is.timely.told));
          none_closed = still_open clock time place row news (e ∷ []) one placed
              (subst IsNoClosing (sym is_so) tt, tt) is.none_closed;
        }

  -- ---- a port that closes, and a device that goes down

  pub closed_so : (more : List Entry)
      (one : TurnsOne place row news (λ v w. TimedTurn clock time v w more)) (h : Holder)
      (port : ℕ) → AreEvents (PortClosed port) more → h.port ≡ Some port →
      AreTimely clock row h → AreTimely time news h
  closed_so more one h port are of timely =
      let m = one.turns.later in
      all_same more one h (PortClosed port) are
      (of, all_are_early (suc clock) time h.dids h.heard (omega (arith, m)) timely.told)
      (λ first at. before_closing first at 0 port) timely

  pub down_open : (more : List Entry)
      (one : TurnsOne place row news (λ v w. TimedTurn clock time v w more)) (h : Holder)
      (device : ℕ) → AreEvents (DeviceDown device) more → AreTimelyOpen clock row h →
      AreTimelyOpen time news h
  down_open more one h device are is =
      all_same_open more one h (DeviceDown device) are tt
      (λ first at. before_down first at 0 device) tt is
