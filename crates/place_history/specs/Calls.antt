-- The calls of a place, each as steps of its queues.
use Rattle.std.specs.Prelude.{◌≡◌, ◌++◌, ℕ, List, [], ◌∷◌, Some, None, Bool, true, false}
use Rattle.packet_entry.specs.declared.packet.Card.{Card}
use Rattle.packet_entry.specs.declared.letter.Letter.{Letter}
use Rattle.nfqa_msgs.specs.NoticeWriting.{FitsTold, told_of}
use Rattle.queue_core.specs.declared.event.Reply.TheVariants.{Arrived}
use Rattle.queue_core.specs.declared.offers.Outcome.{Outcome}
use Rattle.queue_core.specs.declared.offers.Outcome.TheVariants.{Taken}
use Rattle.queue_core.specs.declared.offers.Begun.{Begun}
use Rattle.queue_core.specs.declared.offers.Begun.TheVariants as begun
use Rattle.queue_core.specs.declared.offers.Settled.{Settled}
use Rattle.queue_core.specs.declared.offers.Settled.TheVariants as settled
use Rattle.queue_core.specs.State.{Bound}
use Rattle.queue_core.specs.Step.{Way, is_decided_early, next_id}
use Rattle.queue_core.specs.WithOffer.{letter_of}
use Rattle.histories.specs.declared.entry.Entry.{Entry}
use Rattle.histories.specs.Journeys.{Arrival}
use Rattle.histories.specs.Happenings.{arrive}
use Rattle.histories.specs.States.{state_of, step_of}
use Rattle.place_history.specs.PlaceState.{PlaceState, IsAt, after_event}

-- ---- arrivals

-- a notice is offered, for the queue's port
pub record IsOffered (a : Arrival) (port : ℕ) (letter : Letter) (es : List Entry) : Type 0 where
  pub bound : Bound
  pub state : state_of es a.queue ≡ Some bound
  pub undecided : is_decided_early (Some bound) a.card ≡ false
  pub to_port : port ≡ bound.port
  pub notice : letter ≡ letter_of a.queue bound (next_id bound) a.card
  pub fits : FitsTold (told_of a.queue bound.mode bound.range (next_id bound) a.card)

-- the arrival has this outcome, and its packet leaves
pub record IsTurnedAway (a : Arrival) (room : Bool) (outcome : Outcome) (back : Card)
    (es : List Entry) : Type 0 where
  pub same : back ≡ a.card
  pub reply : (step_of es a.queue (arrive a room)).reply ≡ Arrived outcome
  pub way : Way
  pub leaves : (step_of es a.queue (arrive a room)).left ≡ (a.card, way) ∷ []

-- the arrival's packet waits under this id
pub record IsTaken (a : Arrival) (room : Bool) (id : ℕ) (es : List Entry) : Type 0 where
  pub reply : (step_of es a.queue (arrive a room)).reply ≡ Arrived (Taken id)
  pub stays : (step_of es a.queue (arrive a room)).left ≡ []

-- What the first call answers of the arrival. No notice is offered exactly where one of the lines
-- decides that ask for none.
abbrev pub BeginsAs : Begun → Arrival → List Entry → Type 0
BeginsAs (begun.Offered port letter) a es = IsOffered a port letter es
BeginsAs (begun.Back outcome back) a es =
    (is_decided_early (state_of es a.queue) a.card ≡ true) × IsTurnedAway a true outcome back es

-- the place then: the arrival is held beside the entries, or has happened
abbrev pub after_begin : Begun → Arrival → PlaceState → PlaceState
after_begin (begun.Offered port letter) a place = record place { offer = Some a }
after_begin (begun.Back outcome back) a place = after_event place a.queue (arrive a true)

-- what the second call answers of the arrival
abbrev pub SettlesAs : Settled → Arrival → Bool → List Entry → Type 0
SettlesAs (settled.Waiting id) a room es = IsTaken a room id es
SettlesAs (settled.Back outcome back) a room es = IsTurnedAway a room outcome back es

-- the place once all these happened
abbrev pub with_all : PlaceState → List Entry → PlaceState
with_all place happened = record place { entries = place.entries ++ happened }

-- ---- a place that is the only one

-- every queue is at it; nothing that was begun there is unsettled, and it goes on
pub record IsOnly (place : PlaceState) : Type 0 where
  pub at : (queue : ℕ) → IsAt place queue
  pub no_offer : place.offer ≡ None
  pub standing : place.is_left ≡ false
