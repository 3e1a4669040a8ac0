-- An arrival at a place: as it was begun, and once it has happened.
use Rattle.std.specs.Prelude.{◌≡◌, ℕ, Option}
use Rattle.mailbox.specs.Views.{SenderView}
use Rattle.queue_core.specs.declared.offers.Begun.{Begun}
use Rattle.histories.specs.Journeys.{Arrival}
use Rattle.place_history.specs.Calls.{BeginsAs, after_begin}
use Rattle.place_history.specs.PlaceState.{PlaceState}
use Rattle.locked_place.specs.declared.arrivals.Placed.{Placed}
use Rattle.locked_place.specs.Mails.{MailsGoOn}
use Rattle.locked_place.specs.Turns.{Arrives, HasSender}
use Rattle.locked_place.specs.Views.{AreNotified, IsSettled}

-- it was begun so at this place, and nothing was sent
pub record HasBegun (a : Arrival) (begun : Begun) (before : PlaceState)
    (senders : ℕ → Option SenderView) (now : PlaceState) : Type 0 where
  pub settled : IsSettled before
  pub notified : AreNotified before.entries senders
  pub begins : BeginsAs begun a before.entries
  pub now_so : now ≡ after_begin begun a before

-- it happened, and each sender sent what the list says, at this time
pub record HasArrived (a : Arrival) (time : ℕ) (before : PlaceState)
    (olds : ℕ → Option SenderView) (after : PlaceState) (news : ℕ → Option SenderView)
    (placed : Placed) : Type 0 where
  pub arrives : Arrives a before.entries after.entries placed
  pub sender : HasSender olds placed
  pub settled : IsSettled after
  pub same_number : after.number ≡ before.number
  pub same_places : after.places ≡ before.places
  pub notified : AreNotified after.entries news
  pub mailed : MailsGoOn time before.entries olds after.entries news
