-- Arrivals at a bound queue, as the entries that they are.
use Rattle.std.proofs.Common.{◌≡◌, ◌≢◌, ◌≤◌, ℕ, List, [], ◌∷◌, Option, None, Some, Bool}
use Rattle.std.proofs.Common.{true, false}
use Rattle.std.proofs.Common.{refl, sym, ap, ◌∙◌, ◌<◌, subst}
use Rattle.std.specs.Prelude.{◌==◌, ◌||◌, IfSome, option_map}
use Rattle.std.proofs.lemmas.Bool.{eq-eqb, ne_eqb}
use Rattle.packet_entry.specs.declared.packet.Card.{Card}
use Rattle.packet_entry.specs.Numbers.{last_visit}
use Rattle.queue_core.specs.declared.event.Event.TheVariants.{Arrive}
use Rattle.queue_core.specs.declared.event.Reply.TheVariants.{Arrived}
use Rattle.queue_core.specs.declared.offers.Outcome.{Outcome}
use Rattle.queue_core.specs.declared.offers.Begun.TheVariants as begun
use Rattle.queue_core.specs.Step.{Stepped, Way, step, arrive_in_time}
use Rattle.queue_core.specs.Step.{is_decided_early, next_id}
use Rattle.queue_core.specs.State.{Bound}
use Rattle.queue_core.specs.Calls.{BeginsArrival, ArrivesAs}
use Rattle.queue_core.specs.WithOffer.{WithOffer}
use Rattle.histories.specs.declared.entry.Entry.{Entry}
use Rattle.place_history.specs.declared.place.held.Held.{Held}
use Rattle.place_history.specs.declared.place.held.Offer.{Offer}
use Rattle.histories.specs.Numbers.{queue_count}
use Rattle.place_history.specs.Changes.{Queues, queue_at, Changes}
use Rattle.histories.specs.States.{state_of, step_of, entry_of}
use Rattle.place_history.specs.Calls.{IsTurnedAway}
use Rattle.place_history.specs.PlaceInvariant.{IsReplayed, IsOffer, as_arrival, held_as}
use Rattle.place_history.proofs.QueueStep.{Makes, state_before, states_alike}

abbrev pub arrival_entry : Offer → Bool → Outcome → Entry
arrival_entry o room outcome =
    record {
      queue = o.queue;
      event = Arrive o.card o.bypass room;
      reply = Arrived outcome;
    }

-- a queue that turns a packet away has made the arrival's step
pub turned_away : (h : Held) (new : Queues) (o : Offer) (packet : Card) (outcome : Outcome)
    (back : Card) → o.card ≡ packet → 1 ≤ o.card.visit → o.card.visit ≤ last_visit →
    o.card.visit ≢ last_visit →
    (c : Changes h.queues new o.queue
    (λ old new. BeginsArrival (begun.Back outcome back) o.queue packet old new)) →
    Makes c.before c.after (arrival_entry o true outcome)
turned_away h new o packet outcome back same first last in_time c =
    let is : step (Some c.before.state) (Arrive o.card o.bypass true) ≡ record {
      state = Some c.after.state;
      reply = Arrived outcome;
      left = (packet, c.by.3) ∷ [];
    } = rw same ((c.by.4 true).step (rw (← same) in_time) o.bypass) in
    record {
      state = ap (λ (s : Stepped). s.state) is;
      reply = sym (ap (λ (s : Stepped). s.reply) is);
      allowed = (first, last, λ _. refl);
      settled = c.by.2;
    }

-- and what comes of it is what the step tells
pub record TellsBack (h : Held) (o : Offer) (outcome : Outcome) (back : Card) : Type 0 where
  pub tells : (is_decided_early (state_of h.entries.items o.queue) o.card ≡ true)
      × IsTurnedAway (as_arrival o) true outcome back h.entries.items
  pub entry : arrival_entry o true outcome
      ≡ entry_of h.entries.items o.queue (Arrive o.card o.bypass true)

pub tells_back : (h : Held) (new : Queues) (o : Offer) (packet : Card) (outcome : Outcome)
    (back : Card) → IsReplayed h → o.card ≡ packet → o.card.visit ≢ last_visit →
    (c : Changes h.queues new o.queue
    (λ old new. BeginsArrival (begun.Back outcome back) o.queue packet old new)) →
    TellsBack h o outcome back
tells_back h new o packet outcome back replayed same in_time c =
    let is : step (Some c.before.state) (Arrive o.card o.bypass true) ≡ record {
      state = Some c.after.state;
      reply = Arrived outcome;
      left = (packet, c.by.3) ∷ [];
    } = rw same ((c.by.4 true).step (rw (← same) in_time) o.bypass) in
    let before : state_of h.entries.items o.queue ≡ Some c.before.state =
    state_before h o.queue c.before replayed c.was in
    record {
      tells = (
        rw (before, c.by.0) (or_true (o.card.visit == last_visit)),
        record {
          same = c.by.1 ∙ sym same;
          reply = rw (before, is) refl;
          way = c.by.3;
          leaves = rw (before, is, same) refl;
        },
      );
      entry = rw (before, is) refl;
    }
  where
    or_true : (b : Bool) → (b || true) ≡ true
    or_true true = refl
    or_true false = refl

-- an arrival in time at an absent queue
pub at_absent : (h : Held) (o : Offer) (outcome : Outcome) → IsReplayed h →
    queue_at h.queues o.queue ≡ None → o.card.visit ≢ last_visit →
    ((card : Card) → (way : Way) × (arrive_in_time None card o.bypass true ≡ record {
      state = None;
      reply = Arrived outcome;
      left = (card, way) ∷ [];
    })) →
    (way : Way) × (step_of h.entries.items o.queue (Arrive o.card o.bypass true) ≡ record {
      state = state_of h.entries.items o.queue;
      reply = Arrived outcome;
      left = (o.card, way) ∷ [];
    })
at_absent h o outcome is absent in_time arrives =
    let state : state_of h.entries.items o.queue ≡ None =
    sym (states_alike h o.queue is)
    ∙ ap (option_map (λ (w : WithOffer). w.state)) absent in
    rw (state, ne_eqb o.card.visit last_visit in_time) (arrives o.card)

-- ---- settling

-- what is known of the queue at which an arrival is held
pub record Stands (h : Held) (o : Offer) (before : WithOffer) : Type 0 where
  pub state : state_of h.entries.items o.queue ≡ Some before.state
  pub offer : before.offer ≡ Some (next_id before.state, o.card)
  pub undecided : is_decided_early (Some before.state) o.card ≡ false
  pub in_time : o.card.visit ≢ last_visit
  pub first : 1 ≤ o.card.visit
  pub last : o.card.visit ≤ last_visit
  pub number : o.queue < queue_count

offer_held : (o : Offer) (s : Option Bound) (b : Bound) (w : WithOffer) → s ≡ Some b →
    Some w ≡ held_as (Some o) o.queue s → w.offer ≡ Some (next_id b, o.card)
offer_held o None b w is h = absurd (cc)
offer_held o (Some a) b w is h =
    ap (offer_in o) h ∙ rw (eq-eqb o.queue o.queue refl) (ap (offered o) is)
  where
    offer_in : Offer → Option WithOffer → Option (ℕ × Card)
    offer_in o None = None
    offer_in o (Some w) = w.offer

    offered : Offer → Option Bound → Option (ℕ × Card)
    offered o None = None
    offered o (Some a) = Some (next_id a, o.card)

not_last : (card : Card) (b : Bound) → is_decided_early (Some b) card ≡ false →
    card.visit ≢ last_visit
not_last card b undecided same =
    let early : is_decided_early (Some b) card ≡ true =
    rw (eq-eqb card.visit last_visit same) refl in
    let wrong : true ≡ false = sym early ∙ undecided in cc

pub stands : (h : Held) (o : Offer) (before : WithOffer) → IsReplayed h → h.offer ≡ Some o →
    queue_at h.queues o.queue ≡ Some before → Stands h o before
stands h o before is offer was =
    let state : state_of h.entries.items o.queue ≡ Some before.state =
    state_before h o.queue before is was in
    let offered : IsOffer h.entries.items o =
    subst (λ x. IfSome x (IsOffer h.entries.items)) offer is.offered in
    let same : Some offered.bound ≡ Some before.state = sym offered.state ∙ state in
    let undecided : is_decided_early (Some before.state) o.card ≡ false =
    subst (λ q. is_decided_early q o.card ≡ false) same offered.undecided in
    record {
      state = state;
      offer = offer_held o (state_of h.entries.items o.queue) before.state before state
          (sym was ∙ subst
          (λ x. queue_at h.queues o.queue ≡ held_as x o.queue (state_of h.entries.items o.queue))
          offer (is.states o.queue));
      undecided = undecided;
      in_time = not_last o.card before.state undecided;
      first = offered.first;
      last = offered.last;
      number = offered.number;
    }

-- an arrival that is settled has made its step
pub settled_makes : (h : Held) (o : Offer) (before after : WithOffer) (room : Bool)
    (outcome : Outcome) (left : List (Card × Way)) → Stands h o before → after.offer ≡ None →
    ArrivesAs before.state o.card room (record {
      state = Some after.state;
      reply = Arrived outcome;
      left = left;
    }) →
    Makes before after (arrival_entry o room outcome)
settled_makes h o before after room outcome left at settled arrives =
    let is : step (Some before.state) (Arrive o.card o.bypass room) ≡ record {
      state = Some after.state;
      reply = Arrived outcome;
      left = left;
    } = arrives.step at.in_time o.bypass in
    record {
      state = ap (λ (s : Stepped). s.state) is;
      reply = sym (ap (λ (s : Stepped). s.reply) is);
      allowed = (
        at.first,
        at.last,
        λ early. let wrong : true ≡ false = sym early ∙ at.undecided in cc,
      );
      settled = settled;
    }

-- and its packet leaves as the step says
pub turned_back : (h : Held) (o : Offer) (before after : WithOffer) (room : Bool)
    (outcome : Outcome) (back : Card) (way : Way) → Stands h o before → back ≡ o.card →
    ArrivesAs before.state o.card room (record {
      state = Some after.state;
      reply = Arrived outcome;
      left = (o.card, way) ∷ [];
    }) →
    IsTurnedAway (as_arrival o) room outcome back h.entries.items
turned_back h o before after room outcome back way at same arrives =
    let is : step (Some before.state) (Arrive o.card o.bypass room) ≡ record {
      state = Some after.state;
      reply = Arrived outcome;
      left = (o.card, way) ∷ [];
    } = arrives.step at.in_time o.bypass in
    record {
      same = same;
      reply = rw (at.state, is) refl;
      way = way;
      leaves = rw (at.state, is) refl;
    }
