-- A call at one queue makes the step of its event.
use Rattle.std.proofs.Common.{◌≡◌, ◌<◌, ℕ, Option, None, Some, false, refl}
use Rattle.std.proofs.Common.{sym, ap, ◌∙◌, subst, arith}
use Rattle.std.specs.Prelude.{IfSome, ◌==◌, option_map}
use Rattle.std.specs.BTreeMap.{is_at}
use Rattle.std.specs.Ordering.{nat_cmp}
use Rattle.queue_core.specs.State.{Bound}
use Rattle.queue_core.specs.Step.{step}
use Rattle.queue_core.specs.WithOffer.{WithOffer}
use Rattle.histories.specs.Numbers.{queue_count}
use Rattle.histories.specs.declared.entry.Entry.{Entry}
use Rattle.place_history.specs.declared.place.held.Held.{Held}
use Rattle.place_history.specs.declared.place.held.Offer.{Offer}
use Rattle.histories.specs.History.{IsAllowed}
use Rattle.histories.specs.States.{state_of}
use Rattle.histories.specs.NumberKeys.{not_of}
use Rattle.place_history.specs.PlaceInvariant.{IsReplayed, IsAhead, held_as}
use Rattle.place_history.specs.Changes.{Queues, queue_at, Changes}

-- what is held tells the state
pub state_held : (offer : Option Offer) (queue : ℕ) (s : Option Bound) (w : WithOffer) →
    Some w ≡ held_as offer queue s → s ≡ Some w.state
state_held offer queue None w h = absurd (cc)
state_held offer queue (Some b) w h = ap (λ o. state_in o b) (sym h)
  where
    state_in : Option WithOffer → Bound → Option Bound
    state_in None b = Some b
    state_in (Some w) b = Some w.state

-- a queue where no offer stands
pub no_offer_at : (offer : Option Offer) (queue : ℕ) (s : Option Bound) →
    IfSome offer (λ o. (o.queue == queue) ≡ false) →
    held_as offer queue s ≡ held_as None queue s
no_offer_at offer queue None elsewhere = refl
no_offer_at None queue (Some b) elsewhere = refl
no_offer_at (Some o) queue (Some b) elsewhere = rw elsewhere refl

-- what a call at one queue has to say, so that the entry of its event can be appended
pub record Makes (before after : WithOffer) (e : Entry) : Type 0 where
  pub state : (step (Some before.state) e.event).state ≡ Some after.state
  pub reply : e.reply ≡ (step (Some before.state) e.event).reply
  pub allowed : IsAllowed (Some before.state) e.event
  pub settled : after.offer ≡ None

-- an offer stands nowhere but at this queue
abbrev pub OffersOnlyAt : Option Offer → ℕ → Type 0
OffersOnlyAt offer queue = IfSome offer (λ o. o.queue ≡ queue)

elsewhere : (offer : Option Offer) (k queue : ℕ) → OffersOnlyAt offer k →
    is_at (nat_cmp k) queue ≡ false → IfSome offer (λ o. (o.queue == queue) ≡ false)
elsewhere None k queue only other = tt
elsewhere (Some o) k queue only other =
    subst (λ n. (n == queue) ≡ false) (sym only) (not_of k queue other)

-- the state of the queue before
pub state_before : (h : Held) (queue : ℕ) (w : WithOffer) → IsReplayed h →
    queue_at h.queues queue ≡ Some w → state_of h.entries.items queue ≡ Some w.state
state_before h queue w is was =
    state_held h.offer queue (state_of h.entries.items queue) w (sym was ∙ is.states queue)

pub ahead : (h : Held) (new : Queues) (e : Entry)
    {By : WithOffer → WithOffer → Type 0} → IsReplayed h → OffersOnlyAt h.offer e.queue →
    e.queue < queue_count → (c : Changes h.queues new e.queue By) →
    Makes c.before c.after e →
    IsAhead e (record { queues = new; entries = h.entries; waiting = h.waiting; offer = None })
ahead h new e is only number c makes =
    let es = h.entries.items in
    let before : state_of es e.queue ≡ Some c.before.state =
    state_before h e.queue c.before is c.was in
    record {
      one = record {
        reply = rw before makes.reply;
        allowed = rw before makes.allowed;
      };
      number = number;
      own = rw (c.is, before, makes.state)
          (ap (λ o. Some (record { state = c.after.state; offer = o })) makes.settled);
      others = λ queue other. c.others queue other ∙ is.states queue
          ∙ no_offer_at h.offer queue (state_of es queue)
          (elsewhere h.offer e.queue queue only other);
      legal = is.legal;
      no_offer = refl;
      waiting = is.waiting;
      bound = rw (before, makes.state) (omega (arith, c.as_many, is.bound));
      few = is.few;
    }

-- what is held has the states of the histories
pub states_alike : (h : Held) (queue : ℕ) → IsReplayed h →
    option_map (λ (w : WithOffer). w.state) (queue_at h.queues queue)
    ≡ state_of h.entries.items queue
states_alike h queue is =
    ap (option_map (λ (w : WithOffer). w.state)) (is.states queue)
    ∙ held_alike h.offer queue (state_of h.entries.items queue)
  where
    held_alike : (offer : Option Offer) (queue : ℕ) (s : Option Bound) →
        option_map (λ (w : WithOffer). w.state) (held_as offer queue s) ≡ s
    held_alike offer queue None = refl
    held_alike offer queue (Some b) = refl
