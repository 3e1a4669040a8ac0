-- One step of a packet on its way.
use Rattle.std.proofs.Common.{◌≡◌, ℕ, suc, List, [], ◌∷◌, ◌++◌, Option, Some, Bool}
use Rattle.std.proofs.Common.{refl, sym, ap, ◌∙◌, subst, inr, arith}
use Rattle.std.specs.Prelude.{Contains}
use Rattle.packet_entry.specs.declared.packet.Card.{Card}
use Rattle.hook_chain.specs.declared.chain.Next.{Next}
use Rattle.hook_chain.specs.declared.chain.Next.TheVariants.{Released, To}
use Rattle.queue_core.specs.declared.event.Event.TheVariants.{Arrive}
use Rattle.queue_core.specs.declared.event.Reply.TheVariants.{Arrived}
use Rattle.queue_core.specs.declared.offers.Outcome.{Outcome}
use Rattle.queue_core.specs.Laws.{way_by}
use Rattle.queue_core.specs.State.{Bound}
use Rattle.queue_core.specs.Step.{Way, Gone, Open, Decided, step}
use Rattle.histories.specs.declared.entry.Entry.{Entry}
use Rattle.histories.specs.declared.histories.Lost.{Lost}
use Rattle.histories.specs.Happenings.{arrive}
use Rattle.histories.specs.History.{AreLegal}
use Rattle.histories.specs.Journeys.{Arrival}
use Rattle.histories.specs.States.{state_of, step_of}
use Rattle.histories.specs.Places.{place_for}
use Rattle.packet_moves.specs.declared.fed.Fed.{Fed}
use Rattle.packet_moves.specs.declared.fed.Fed.TheVariants as fed
use Rattle.packet_moves.specs.declared.setting.Setting.{Setting}
use Rattle.packet_moves.specs.Moving.{arrival_to, route_after}
use Rattle.locked_place.specs.declared.arrivals.Placed.{Placed}
use Rattle.locked_place.specs.declared.arrivals.Placed.TheVariants as placed
use Rattle.locked_place.specs.Turns.{IsTurn, ArrivesIn, PlacesAs}
use Rattle.place_rows.specs.Rows.{Known, TurnsOne}
use Rattle.packet_moves.specs.declared.came.Came.{Came}
use Rattle.packet_moves.specs.declared.came.Came.TheVariants.{GoesOn}
use Rattle.packet_moves.specs.OnTheWay.{IsTurned, WasToArrive}
use Rattle.place_turns.specs.Trails.{Trail, MayLook}
use Rattle.hook_chain.specs.Route.{next}
use Rattle.place_turns.specs.Moving.{Carries, Settles, IsFed}
use Rattle.place_turns.specs.OnTheWay.{CameTo, StandsAs, StepsTo, IsMoved, LooksFor, IsCarried}
use Rattle.place_turns.specs.OnTheWay.{trail}
use Rattle.place_turns.proofs.OnwardBalance.{look_at}

-- what the law of queues says of what leaves at an arrival
abbrev pub LeavesAsOutcome : Type 0
LeavesAsOutcome = (q : Option Bound) (card : Card) (bypass room : Bool) (o : Outcome)
    (l : Card × Way) → (step q (Arrive card bypass room)).reply ≡ Arrived o →
    Contains (step q (Arrive card bypass room)).left l → l ≡ (card, way_by o)

first_in : (l : Card × Way) (ls : List (Card × Way)) → Contains (l ∷ ls) l
first_in l ls = (0, omega arith, refl)

way_in : Way → Card × Way → Way
way_in way l = l.1

-- ---- one step

module _ (memory places : ℕ) (s : Setting) where
  turned_on : (card : Card) (way : Way) (came : Came) (t u : Trail) (f : Fed) →
      IsTurned s card way came → CameTo (Carries memory places s) t came u f →
      Carries memory places s t card (route_after s (card, way)) u f
  turned_on card Gone came t u f is h =
      subst (λ c. CameTo (Carries memory places s) t c u f) is h
  turned_on card Open came t u f is h =
      subst (λ c. CameTo (Carries memory places s) t c u f) is h
  turned_on card (Decided decision) came t u f is h = absurd is

  settles_so : LeavesAsOutcome → (a : Arrival) (room : Bool) (es : List Entry) (done : Placed)
      (came : Came) (t u : Trail) (f : Fed) → PlacesAs done a room es → StandsAs s done came →
      CameTo (Carries memory places s) t came u f →
      Settles (Carries memory places s) s t (step_of es a.queue (arrive a room)).left u f
  settles_so law a room es (placed.Waiting port) came t u f posted is h =
      rw posted.taken.stays (subst (λ c. CameTo (Carries memory places s) t c u f) is h)
  settles_so law a room es (placed.Back outcome card) came t u f back is h =
      let left = (step_of es a.queue (arrive a room)).left in
      let inside : Contains left (a.card, back.way) =
      subst (λ (ls : List (Card × Way)). Contains ls (a.card, back.way)) (sym back.leaves)
      (first_in (a.card, back.way) []) in
      let way : back.way ≡ way_by outcome =
      ap (λ (l : Card × Way). l.1)
      (law (state_of es a.queue) a.card a.bypass room outcome (a.card, back.way) back.reply
      inside) in
      let there : IsTurned s a.card back.way came =
      subst (λ y. IsTurned s a.card y came) (sym way)
      (subst (λ (c : Card). IsTurned s c (way_by outcome) came) back.same is) in
      rw back.leaves (turned_on a.card back.way came t u f there h)

pub arrived_so : LeavesAsOutcome → (places : ℕ) (s : Setting) (queue : ℕ) (bypass : Bool)
    (table : ℕ) (card : Card) (olds news : List Known) (done : Placed) (came : Came) →
    TurnsOne (place_for queue places) olds news
    (λ v w. ArrivesIn (arrival_to queue bypass table card) v w done) →
    StandsAs s done came → IsMoved places s olds news card (To queue bypass table) came
arrived_so law places s queue bypass table card olds news done came one stands memory lost u f h =
    let a = arrival_to queue bypass table card in
    let in_ = one.turns in
    record {
      found = in_.found;
      room = in_.arrives.room;
      between = trail news lost;
      turn = record {
        turn = record {
          one = record {
            before = one.before;
            after = one.after;
            had = one.had;
            has = one.has;
            turns = subst (λ es. IsTurn one.before in_.found es one.after) in_.arrives.entered
                in_.turn;
          };
          legal = subst AreLegal in_.arrives.entered in_.legal;
        };
        same = refl;
      };
      settles = settles_so memory places s law a in_.arrives.room in_.found done came
          (trail news lost) u f in_.arrives.places stands h;
    }

-- a packet for which no memory is found is lost
pub lost_so : (places : ℕ) (s : Setting) (card back : Card) (route : Next) (olds news : List Known)
    (was now : List Lost) (u : Trail) (f : Fed) →
    LooksFor places olds news route → WasToArrive card route back →
    now ≡ was ++ record { number = back.number; visit = back.visit } ∷ [] →
    u ≡ trail news now → f ≡ fed.Lost →
    IsCarried places s (trail olds was) (GoesOn card (Some route)) u f
lost_so places s card back Released olds news was now u f looked back_is lost at is = absurd looked
lost_so places s card back (To queue bypass table) olds news was now u f looked back_is lost at
    is =
    record {
      memory = 0;
      moved = record {
        found = looked.turns.found;
        between = trail news was;
        looked = record {
          turn = look_at (place_for queue places) olds news looked;
          same = refl;
        };
        lost = at
            ∙ ap (trail news) (lost ∙ ap (λ (c : Card).
            was ++ record { number = c.number; visit = c.visit } ∷ []) back_is);
        is = is;
      };
    }

pub looks_for : (places : ℕ) (olds news : List Known) (was now : List Lost) (route : Next) →
    LooksFor places olds news route → now ≡ was → MayLook (trail olds was) (trail news now)
looks_for places olds news was now Released looked same = absurd looked
looks_for places olds news was now (To queue bypass table) looked same =
    inr (same, (place_for queue places, looked))

-- a step that lost nothing is one from where the packet stood
pub moved_on : (places : ℕ) (s : Setting) (old new : Trail) (card : Card) (route : Next)
    (came : Came) → new.lost ≡ old.lost → IsMoved places s old.known new.known card route came →
    StepsTo places s old (GoesOn card (Some route)) new came
moved_on places s old new card route came same moved memory u f h =
    record {
      memory = suc memory;
      moved = moved memory old.lost u f
          (subst (λ (lost : List Lost). CameTo (Carries memory places s) (trail new.known lost)
          came u f) same h);
    }

-- a packet whose first arrival found memory was fed, wherever it went on to
pub fed_so : (places : ℕ) (s : Setting) (old mid new : Trail) (card : Card) (route : Next)
    (came : Came) (f : Fed) → mid.lost ≡ old.lost →
    IsMoved places s old.known mid.known card route came → route ≡ next s.tables s.key card 1 →
    IsCarried places s mid came new f → IsFed places s old card new f
fed_so places s old mid new card route came f same moved is carried =
    record {
      memory = carried.memory;
      moved = subst (λ (r : Next). Carries (suc carried.memory) places s old card (Some r) new f)
          is
          (moved carried.memory old.lost new f
          (subst (λ (lost : List Lost). CameTo (Carries carried.memory places s)
          (trail mid.known lost) came new f) same carried.moved));
    }
