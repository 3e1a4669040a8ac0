-- What the calls of a plane do to the passes of a run.
use Rattle.std.proofs.Common.{◌++◌, ◌+◌, ◌<◌, ◌∙◌, ◌∷◌, ◌≡◌, ◌≢◌, Bool, List, None, Option}
use Rattle.std.proofs.Common.{Some, [], ap, append-nil, arith, inl, inr, length, refl, subst, suc}
use Rattle.std.proofs.Common.{sym, zero, ℕ}
use Rattle.std.proofs.lemmas.List.Elements.{filter-append}
use Rattle.std.specs.Prelude.{map, slice_get, slice_set}
use Rattle.packet_entry.specs.declared.letter.Letter.{Letter}
use Rattle.packet_entry.specs.declared.packet.Card.{Card}
use Rattle.netlink_codec.specs.Messages.{NetlinkMessage}
use Rattle.nfqa_msgs.specs.RequestReading.{decoded}
use Rattle.nfqa_msgs.specs.declared.request.Decoded.{Decoded}
use Rattle.nfqa_msgs.specs.declared.request.Decoded.TheVariants.{Asked, Nothing, Refused}
use Rattle.nfqa_msgs.specs.declared.request.Request.{Request}
use Rattle.hook_chain.specs.declared.chain.Decision.{Decision}
use Rattle.hook_chain.specs.declared.chain.Next.{Next}
use Rattle.hook_chain.specs.declared.chain.Next.TheVariants.{Released, To}
use Rattle.queue_core.specs.Laws.{times, waiting_in}
use Rattle.queue_core.specs.State.{Bound}
use Rattle.queue_core.specs.Step.{step}
use Rattle.queue_core.specs.declared.event.Event.TheVariants.{Arrive, Ask}
use Rattle.histories.specs.Happenings.{all_handed, arrive, closings, downs, queue_of}
use Rattle.histories.specs.History.{AreLegal, IsLegal, history, is_of}
use Rattle.histories.specs.States.{entry_of, state_of, step_of}
use Rattle.histories.specs.declared.entry.Entry.{Entry}
use Rattle.histories.specs.declared.log.Did.{Did}
use Rattle.histories.specs.Places.{place_for}
use Rattle.packet_moves.specs.Calls.{next_call}
use Rattle.packet_moves.specs.HandedOn.{AreInTime, WaitInTime, is_out_of_time}
use Rattle.packet_moves.specs.Moving.{arrival_to}
use Rattle.packet_moves.specs.declared.fed.Fed.{Fed}
use Rattle.packet_moves.specs.declared.setting.Setting.{Setting}
use Rattle.run_parts.specs.Log.{after, logged}
use Rattle.run_parts.specs.Requests.{errno_in}
use Rattle.live_runs.specs.Calls.{Asks, Enters, Falls, Feeds, IsHandedOn, IsLater, IsTurn, ShutsAt}
use Rattle.live_runs.specs.Calls.{entering}
use Rattle.live_runs.specs.Passes.{CarriesOut, Shuts, SpeaksFirst}
use Rattle.live_runs.specs.Seen.{Grows, IsNone, entries}
use Rattle.live_passes.proofs.Moves.{LeaveAlone, Moves, carries_move, handed_moves, leaves}
use Rattle.live_passes.proofs.Moves.{settles_move, turn_moves}
use Rattle.live_passes.proofs.Turns.{AreInPlace, TurnLaws, TurnedAt, placed_at, turned_at}
use Rattle.live_passes.specs.Views.{pass_with, port_pass, seen_of, shares_of}
use Rattle.locked_place.specs.Turns.{GoesDownIn}
use Rattle.mailbox.specs.declared.view.Post.{Post}
use Rattle.place_rows.specs.Rows.{Known, TurnsOne}
use Rattle.place_turns.specs.Messages.{IsAsked, Sends}
use Rattle.place_turns.specs.Moving.{Carries}
use Rattle.place_turns.specs.Passes.{Shuts as ShutsPlace}
use Rattle.plane.specs.Passes.{Closes, PortView}
use Rattle.place_turns.specs.Trails.{MayLook, Trail}
use Rattle.locked_place.specs.Turns as lock
use Rattle.place_turns.specs.Messages as message
use Rattle.plane.specs.Passes as view

module _ (laws : TurnLaws) (alone : LeaveAlone)
    (waits : (es : List Entry) → AreLegal es → WaitInTime es)
    (goes : (q : Option Bound) (port call : ℕ) (request : Request) →
    times (λ number visit. is_out_of_time visit) (waiting_in q) ≡ 0 →
    AreInTime (all_handed (step q (Ask port call request)).left))
    (fronts : (es fs : List Entry) → IsLegal (es ++ fs) → IsLegal es) where
  -- a front of legal lists is legal
  legal_front : (es fs : List Entry) → AreLegal (es ++ fs) → AreLegal es
  legal_front es fs are queue = fronts (history queue es) (history queue fs)
      (subst IsLegal (filter-append (is_of queue) es fs) (are queue))

  -- ---- a request

  module _ (places : ℕ) (s : Setting) (port call : ℕ) (r : Request) (old new : Trail) (errno : ℕ)
      (placed : AreInPlace old.known)
      (is : message.IsAsked places s port call r old new errno) where
    abbrev here : ℕ
    here = place_for (queue_of r) places

    abbrev e : Entry
    e = entry_of is.found (queue_of r) (Ask port call r)

    abbrev handed : List (Card × Decision)
    handed = all_handed (step_of is.found (queue_of r) (Ask port call r)).left

    one : TurnsOne here old.known is.between.known
        (λ v w. lock.IsTurn v is.found (is.found ++ e ∷ []) w)
    one = is.turn.turn.one

    at : TurnedAt here old.known is.between.known is.found (e ∷ [])
    at = turned_at laws here old.known is.between.known one.before one.after one.had one.has placed
        is.found (e ∷ []) one.turns

    placed_between : AreInPlace is.between.known
    placed_between = placed_at laws here old.known is.between.known one.before one.after one.had
        one.has placed is.found (e ∷ []) one.turns

    in_time : AreInTime handed
    in_time = goes (state_of is.found (queue_of r)) port call r
        (waits is.found (legal_front is.found (e ∷ []) is.turn.turn.legal) (queue_of r))

    moved : Moves (IsHandedOn handed) is.between new
    moved = handed_moves laws alone places s is.between handed new in_time placed_between is.moved

    -- what a request is, where its turn found this list
    abbrev IsIt : List Entry → Type 0
    IsIt found =
        IsTurn at.others (entry_of found (queue_of r) (Ask port call r) ∷ [])
        (shares_of old.known here) (shares_of is.between.known here)
        × (errno ≡ errno_in (entry_of found (queue_of r) (Ask port call r)).reply)
        × Grows (IsHandedOn (all_handed (step_of found (queue_of r) (Ask port call r)).left))
        (shares_of is.between.known here) (shares_of new.known here)
        × ((k : ℕ) → k ≢ here →
        Grows (IsHandedOn (all_handed (step_of found (queue_of r) (Ask port call r)).left))
        (shares_of old.known k) (shares_of new.known k))

    found_it : IsIt (entries (shares_of old.known here) ++ at.others)
    found_it = subst IsIt at.found_so (
      at.turn,
      sym (ap errno_in is.reply),
      moved.grows here,
      λ k other. subst (λ xs. Grows (IsHandedOn handed) xs (shares_of new.known k))
          (at.elsewhere k other) (moved.grows k),
    )

    pub asks_so : Asks places port call r errno (shares_of old.known) (shares_of new.known)
    asks_so = record {
      others = at.others;
      between = shares_of is.between.known here;
      turn = found_it.0;
      errno_is = found_it.1;
      here = found_it.2;
      elsewhere = found_it.3;
    }

  carries_out_so : (places : ℕ) (s : Setting) (port call : ℕ) (d : Decoded) (old new : Trail)
      (errno : ℕ) → AreInPlace old.known →
      message.CarriesOut places s port call d old new errno →
      CarriesOut places port call d errno (shares_of old.known) (shares_of new.known)
  carries_out_so places s port call Nothing old new errno placed is =
      (is.0, λ k. ap (λ (t : Trail). shares_of t.known k) is.1)
  carries_out_so places s port call (Refused refusal) old new errno placed is =
      (is.0, λ k. ap (λ (t : Trail). shares_of t.known k) is.1)
  carries_out_so places s port call (Asked r) old new errno placed is =
      asks_so places s port call r old new errno placed is

  pub sends_so : (places : ℕ) (s : Setting) (port : ℕ) (front : Option (NetlinkMessage × ℕ))
      (dids logged : List Did) (letters : List Letter) (old new : Trail) (before after : List ℕ)
      (used : ℕ) → AreInPlace old.known →
      message.Sends places s port front dids logged old new before after used →
      SpeaksFirst places port front (pass_with dids letters old.known)
      (pass_with logged letters new.known) used
  sends_so places s port None dids logged letters old new before after used placed is = (
    is.0,
    ap (λ ds. pass_with ds letters new.known) is.2
        ∙ ap (λ (t : Trail). pass_with dids letters t.known) is.1,
  )
  sends_so places s port (Some (m, n)) dids logged letters old new before after used placed is = (
    is.0,
    record {
      errno = is.1.errno;
      speaks = record {
        logged = is.1.noted;
        letters = refl;
        carried = carries_out_so places s port (next_call dids) (decoded m) old new is.1.errno
            placed is.1.carried_out;
      };
    },
  )

  -- ---- what is fed

  enters_so : (places : ℕ) (s : Setting) (queue table : ℕ) (bypass : Bool) (card : Card)
      (memory : ℕ) (old new : Trail) (f : Fed) → card.visit ≡ 0 → AreInPlace old.known →
      Carries (suc memory) places s old card (Some (To queue bypass table)) new f →
      Enters places queue table bypass card (shares_of old.known) (shares_of new.known)
  enters_so places s queue table bypass card memory old new f fresh placed c =
      let first = arrival_to queue bypass table card in
      let e = entry_of c.found queue (arrive first c.room) in
      let one = c.turn.turn.one in
      let at = turned_at laws (place_for queue places) old.known c.between.known one.before
      one.after
      one.had one.has placed c.found (e ∷ []) one.turns in
      let between_placed = placed_at laws (place_for queue places) old.known c.between.known
      one.before
      one.after one.had one.has placed c.found (e ∷ []) one.turns in
      let moved = settles_move laws alone places s memory
      (carries_move laws alone places s memory) c.between first.card
      (step_of c.found queue (arrive first c.room)).left new f (omega arith)
      (leaves first.card (step_of c.found queue (arrive first c.room))
      (alone (state_of c.found queue) first.card bypass c.room)) between_placed c.settles in
      record {
        others = at.others;
        room = c.room;
        between = shares_of c.between.known (place_for queue places);
        turn = subst (λ es. IsTurn at.others
            (entry_of es queue (entering table bypass card c.room) ∷ [])
            (shares_of old.known (place_for queue places))
            (shares_of c.between.known (place_for queue places)))
            at.found_so
            (subst (λ n. IsTurn at.others (entry_of c.found queue
            (Arrive (record card { visit = n; table = table }) bypass c.room) ∷ [])
            (shares_of old.known (place_for queue places))
            (shares_of c.between.known (place_for queue places)))
            (first_visit fresh) at.turn);
        here = moved.grows (place_for queue places);
        elsewhere = λ k other. subst (λ xs. Grows IsLater xs (shares_of new.known k))
            (at.elsewhere k other) (moved.grows k);
      }
    where
      first_visit : card.visit ≡ 0 → card.visit + 1 ≡ 1
      first_visit fresh = omega (arith, fresh)

  pub feeds_so : (places : ℕ) (s : Setting) (card : Card) (route : Next) (memory : ℕ)
      (old new : Trail) (f : Fed) → card.visit ≡ 0 → AreInPlace old.known →
      Carries (suc memory) places s old card (Some route) new f →
      Feeds places route card (shares_of old.known) (shares_of new.known)
  feeds_so places s card Released memory old new f fresh placed c =
      λ k. ap (λ (t : Trail). shares_of t.known k) c.0
  feeds_so places s card (To queue bypass table) memory old new f fresh placed c =
      enters_so places s queue table bypass card memory old new f fresh placed c

-- ---- turns alone

pub falls_so : TurnLaws → (device place count : ℕ) (olds news : List Known) → AreInPlace olds →
    TurnsOne place olds news (λ v w. GoesDownIn device v w count) →
    Falls device place (shares_of olds) (shares_of news)
falls_so laws device place count olds news placed one =
    let found = one.turns.found in
    let at = turned_at laws place olds news one.before one.after one.had one.has placed found
    (downs device found) one.turns.turn in
    record {
      others = at.others;
      turn = subst (λ es. IsTurn at.others (downs device es) (shares_of olds place)
          (shares_of news place)) at.found_so at.turn;
      elsewhere = at.elsewhere;
    }

item_at : {X : Type 0} (xs : List X) (k : ℕ) → k < length xs →
    (x : X) × (slice_get xs k ≡ Some x)
item_at [] k h = absurd (omega (arith, h))
item_at (x ∷ xs) zero h = (x, refl)
item_at (x ∷ xs) (suc k) h =
    let so : suc k < suc (length xs) = h in item_at xs k (omega (arith, so))

-- a list in which one item is another one
put_at : {X : Type 0} (xs : List X) (k : ℕ) (x : X) → slice_get xs k ≡ Some x →
    xs ≡ slice_set xs k x
put_at [] k x is = refl
put_at (y ∷ xs) zero x is = cc
put_at (y ∷ xs) (suc k) x is = ap (λ ys. y ∷ ys) (put_at xs k x is)

shuts_at : TurnLaws → (port : ℕ) (olds news : List Known) (k : ℕ) (v w : Known) →
    slice_get olds k ≡ Some v → slice_get news k ≡ Some w → AreInPlace olds →
    ShutsPlace port v w → ShutsAt port (shares_of olds k) (shares_of news k)
shuts_at laws port olds news k v w had has placed shut =
    let found = shut.1.found in
    let mid = slice_set olds k w in
    let at = turned_at laws k olds mid v w had refl placed found (closings port found)
    shut.1.turn in
    let same : shares_of mid k ≡ shares_of news k =
    ap seen_of (got_back olds k v w had ∙ sym has) in
    record {
      others = at.others;
      turn = subst (IsTurn at.others (closings port (entries (shares_of olds k) ++ at.others))
          (shares_of olds k)) same
          (subst (λ es. IsTurn at.others (closings port es) (shares_of olds k) (shares_of mid k))
          at.found_so at.turn);
    }
  where
    got_back : {X : Type 0} (xs : List X) (i : ℕ) (v w : X) → slice_get xs i ≡ Some v →
        slice_get (slice_set xs i w) i ≡ Some w
    got_back [] i v w is = absurd (cc)
    got_back (x ∷ xs) zero v w is = refl
    got_back (x ∷ xs) (suc i) v w is = got_back xs i v w is

pub closes_so : TurnLaws → (places : ℕ) (old new : PortView) → AreInPlace old.trail.known →
    places ≡ length old.trail.known → view.Closes places old new →
    Shuts places old.port (port_pass old) (port_pass new)
closes_so laws places old new placed many c = record {
  logged = ap (λ (p : PortView). p.dids) c.others;
  letters = ap (λ (p : PortView). map (λ (post : Post). post.letter) p.receiver.received) c.others;
  shuts = λ k below.
      let v = item_at old.trail.known k (omega (arith, below, many)) in
      let done = c.turned.done k v.0 below v.1 in
      shuts_at laws old.port old.trail.known new.trail.known k v.0 done.after v.1 done.at placed
      done.turns;
}

pub looks_so : TurnLaws → (old new : Trail) → AreInPlace old.known → MayLook old new → (k : ℕ) →
    Grows IsNone (shares_of old.known k) (shares_of new.known k)
looks_so laws old new placed (inl same) k = record {
  more = [];
  is = ap (λ (t : Trail). shares_of t.known k) same ∙ sym (append-nil (shares_of old.known k));
  ours = tt;
}
looks_so laws old new placed (inr looked) k =
    let one = looked.1.1 in
    let found = one.turns.found in
    (turn_moves laws IsNone looked.1.0 old new found [] found (record {
      turn = record {
        one = record {
          before = one.before;
          after = one.after;
          had = one.had;
          has = one.has;
          turns = one.turns.turn;
        };
        legal = one.turns.legal;
      };
      same = looked.0;
    }) (sym (append-nil found)) tt placed).grows k
