-- The queues of a place beside their entries: each is the replay of its history.
use Rattle.std.specs.Prelude.{◌≡◌, ◌≤◌, ◌<◌, ◌+◌, ◌-◌, ◌++◌, ℕ, List, [], ◌∷◌, Option}
use Rattle.std.specs.Prelude.{Some, None, false}
use Rattle.std.specs.Prelude.{length, IfSome, if◌then◌else◌, nat_eq, Bool, true}
use Rattle.std.specs.BTreeMap.{btree_map_len, is_at}
use Rattle.std.specs.Ordering.{nat_cmp}
use Rattle.packet_entry.specs.declared.packet.Card.{Card}
use Rattle.packet_entry.specs.Numbers.{last_visit}
use Rattle.hook_chain.specs.declared.chain.Decision.{Decision}
use Rattle.queue_core.specs.declared.event.Event.{Event}
use Rattle.queue_core.specs.declared.event.Event.TheVariants.{Arrive}
use Rattle.queue_core.specs.declared.offers.Begun.{Begun}
use Rattle.queue_core.specs.declared.offers.Begun.TheVariants as begun
use Rattle.queue_core.specs.declared.event.Reply.{Reply}
use Rattle.queue_core.specs.declared.event.Reply.TheVariants.{Arrived, Answer, Flushed}
use Rattle.queue_core.specs.State.{Bound}
use Rattle.queue_core.specs.Step.{is_decided_early, next_id}
use Rattle.queue_core.specs.Laws.{stays_in}
use Rattle.queue_core.specs.WithOffer.{WithOffer}
use Rattle.histories.specs.Numbers.{queue_count}
use Rattle.place_history.specs.Numbers.{most_places}
use Rattle.histories.specs.declared.entry.Entry.{Entry}
use Rattle.place_history.specs.declared.place.held.Held.{Held}
use Rattle.place_history.specs.declared.place.held.Offer.{Offer}
use Rattle.histories.specs.History.{IsStep, AreLegal}
use Rattle.histories.specs.Journeys.{Arrival}
use Rattle.histories.specs.States.{state_of, step_of, waiting_in_all, one_if_bound}
use Rattle.histories.specs.States.{bound_in_all, entry_of}
use Rattle.place_history.specs.PlaceState.{AreHere}
use Rattle.place_history.specs.Changes.{queue_at}
use Rattle.histories.specs.Happenings.{all_handed}
use Rattle.histories.specs.Places.{place_for}

-- an arrival that was begun
abbrev pub as_arrival : Offer → Arrival
as_arrival o = record { queue = o.queue; card = o.card; bypass = o.bypass }

-- what a queue holds beside its state: an offer where one was begun there
abbrev pub offer_at : Option Offer → ℕ → Bound → Option (ℕ × Card)
offer_at None queue bound = None
offer_at (Some o) queue bound =
    if nat_eq o.queue queue then Some (next_id bound, o.card) else None

-- a queue in this state
abbrev pub held_as : Option Offer → ℕ → Option Bound → Option WithOffer
held_as offer queue None = None
held_as offer queue (Some bound) =
    Some (record { state = bound; offer = offer_at offer queue bound })

-- an arrival whose notice is offered
pub record IsOffer (es : List Entry) (o : Offer) : Type 0 where
  pub bound : Bound
  pub state : state_of es o.queue ≡ Some bound
  pub undecided : is_decided_early (Some bound) o.card ≡ false
  pub first : 1 ≤ o.card.visit
  pub last : o.card.visit ≤ last_visit
  pub number : o.queue < queue_count

pub record IsReplayed (h : Held) : Type 0 where
  -- each queue is the replay of its history, which is legal
  pub states : (queue : ℕ) →
      queue_at h.queues queue ≡ held_as h.offer queue (state_of h.entries.items queue)
  pub legal : AreLegal h.entries.items
  pub offered : IfSome h.offer (IsOffer h.entries.items)
  -- the two counts
  pub waiting : h.waiting ≡ waiting_in_all h.entries.items
  pub bound : btree_map_len h.queues ≡ bound_in_all h.entries.items
  pub few : h.waiting ≤ length h.entries.items

-- The entry's step has been made, and the entry isn't appended yet.
pub record IsAhead (e : Entry) (h : Held) : Type 0 where
  pub one : IsStep (state_of h.entries.items e.queue) e
  pub number : e.queue < queue_count
  pub own : queue_at h.queues e.queue
      ≡ held_as None e.queue (step_of h.entries.items e.queue e.event).state
  pub others : (queue : ℕ) → is_at (nat_cmp e.queue) queue ≡ false →
      queue_at h.queues queue ≡ held_as None queue (state_of h.entries.items queue)
  pub legal : AreLegal h.entries.items
  pub no_offer : h.offer ≡ None
  pub waiting : h.waiting ≡ waiting_in_all h.entries.items
  pub bound : btree_map_len h.queues + one_if_bound (state_of h.entries.items e.queue)
      ≡ bound_in_all h.entries.items
      + one_if_bound (step_of h.entries.items e.queue e.event).state
  pub few : h.waiting ≤ length h.entries.items

-- how many packets wait once a queue has answered so
abbrev pub waiting_after : ℕ → Reply → ℕ
waiting_after waiting (Arrived outcome) = waiting + stays_in outcome
waiting_after waiting (Answer errno taken) = waiting - taken
waiting_after waiting (Flushed taken) = waiting - taken

-- an offer's entry is still to come
abbrev pub owed_by : Option Offer → ℕ
owed_by None = 0
owed_by (Some o) = 1

-- there is room for an entry of each bound queue, and for so many more
abbrev pub HasRoom : Held → ℕ → Type 0
HasRoom h more = btree_map_len h.queues + owed_by h.offer + more ≤ h.entries.room

-- what is held once an arrival was begun
abbrev pub IsBegun : Begun → Offer → Held → Held → Type 0
IsBegun (begun.Offered port letter) o old new =
    (new.entries.items ≡ old.entries.items) × (new.offer ≡ Some o)
IsBegun (begun.Back outcome back) o old new =
    (new.entries.items ≡ old.entries.items
    ++ entry_of old.entries.items o.queue (Arrive o.card o.bypass true) ∷ []) × (new.offer ≡ None)

-- A request was answered with this errno, and these packets were handed out: its entry is the
-- step's.
pub record Enters (old new : Held) (queue : ℕ) (event : Event) (errno : ℕ)
    (handed : List (Card × Decision)) : Type 0 where
  pub entries : new.entries.items
      ≡ old.entries.items ++ entry_of old.entries.items queue event ∷ []
  pub reply : (step_of old.entries.items queue event).reply
      ≡ Answer errno (length (step_of old.entries.items queue event).left)
  pub handed_out : handed ≡ all_handed (step_of old.entries.items queue event).left

-- the same, with what was handed out before
pub record HandsOut (old new : Held) (queue : ℕ) (event : Event) (errno : ℕ)
    (before after : List (Card × Decision)) : Type 0 where
  pub handed : List (Card × Decision)
  pub entered : Enters old new queue event errno handed
  pub appended : after ≡ before ++ handed

-- what each place keeps
pub record IsPlace (number places : ℕ) (is_left : Bool) (h : Held) : Type 0 where
  pub among : number < places
  pub few_places : places ≤ most_places
  pub replayed : is_left ≡ false → IsReplayed h
  pub room : is_left ≡ false → HasRoom h 0
  -- where the waiting packets were given up, nothing is held but the entries
  pub given_up : is_left ≡ true → (h.queues.entries ≡ []) × (h.offer ≡ None)
  pub legal : AreLegal h.entries.items
  -- each entry is of one of the place's queues
  pub here : AreHere places number h.entries.items
  pub offer_here : IfSome h.offer (λ o. place_for o.queue places ≡ number)
