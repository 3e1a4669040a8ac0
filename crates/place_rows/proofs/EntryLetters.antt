-- The letters of an entry are those of packets that it took.
use Rattle.std.proofs.Common.{◌≡◌, ℕ, refl, inl}
use Rattle.packet_entry.specs.declared.letter.Letter.{Letter}
use Rattle.packet_entry.specs.declared.packet.Card.{Card}
use Rattle.queue_core.specs.State.{Bound}
use Rattle.queue_core.specs.declared.event.Event.{Event}
use Rattle.queue_core.specs.declared.event.Event.TheVariants.{Arrive, Ask, PortClosed, DeviceDown}
use Rattle.queue_core.specs.declared.event.Reply.{Reply}
use Rattle.queue_core.specs.declared.event.Reply.TheVariants.{Arrived, Answer, Flushed}
use Rattle.queue_core.specs.declared.offers.Outcome.{Outcome}
use Rattle.queue_core.specs.declared.offers.Outcome.TheVariants.{Taken, Overflow, OverflowOpen}
use Rattle.queue_core.specs.declared.offers.Outcome.TheVariants.{UserFull, UserFullOpen, NoQueue}
use Rattle.queue_core.specs.declared.offers.Outcome.TheVariants.{Bypassed, CopyNone, Loop}
use Rattle.histories.specs.Letters.{letters_of_event, letters_of_reply, letters_of_outcome}
use Rattle.total_order.specs.Steps.{Has, taken_by, taken_with, taken_as}
use Rattle.place_rows.specs.Lists.{Every}

-- by the outcome of an arrival
outcome_taken : (P : Letter → Type 0) (queue : ℕ) (q : Bound) (card : Card) (o : Outcome) →
    ((l : Letter) → l.queue ≡ queue → Has l.number l.visit (taken_as card o) → P l) →
    Every P (letters_of_outcome queue q card o)
outcome_taken P queue q card (Taken id) f = (f _ refl (inl (refl, refl)), tt)
outcome_taken P queue q card Overflow f = tt
outcome_taken P queue q card OverflowOpen f = tt
outcome_taken P queue q card (UserFull id) f = tt
outcome_taken P queue q card (UserFullOpen id) f = tt
outcome_taken P queue q card NoQueue f = tt
outcome_taken P queue q card Bypassed f = tt
outcome_taken P queue q card CopyNone f = tt
outcome_taken P queue q card Loop f = tt

-- by the reply
reply_taken : (P : Letter → Type 0) (queue : ℕ) (q : Bound) (card : Card) (r : Reply) →
    ((l : Letter) → l.queue ≡ queue → Has l.number l.visit (taken_with card r) → P l) →
    Every P (letters_of_reply queue q card r)
reply_taken P queue q card (Arrived outcome) f = outcome_taken P queue q card outcome f
reply_taken P queue q card (Answer errno taken) f = tt
reply_taken P queue q card (Flushed taken) f = tt

-- by the event
pub event_taken : (P : Letter → Type 0) (queue : ℕ) (q : Bound) (e : Event) (r : Reply) →
    ((l : Letter) → l.queue ≡ queue → Has l.number l.visit (taken_by e r) → P l) →
    Every P (letters_of_event queue q e r)
event_taken P queue q (Arrive card bypass room) r f = reply_taken P queue q card r f
event_taken P queue q (Ask port call request) r f = tt
event_taken P queue q (PortClosed port) r f = tt
event_taken P queue q (DeviceDown device) r f = tt
