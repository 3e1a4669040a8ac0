-- What a finished arrival makes of its place.
use Rattle.std.proofs.Common.{◌≡◌, ℕ, List, [], ◌∷◌, ◌++◌, Option, Some, Bool, true, refl, sym}
use Rattle.std.proofs.Common.{ap, ◌∙◌, subst}
use Rattle.packet_entry.specs.declared.packet.Card.{Card}
use Rattle.packet_entry.specs.declared.letter.Letter.{Letter}
use Rattle.mailbox.specs.Views.{SenderView}
use Rattle.queue_core.specs.declared.offers.Begun.TheVariants as begun
use Rattle.queue_core.specs.declared.offers.Outcome.{Outcome}
use Rattle.histories.specs.declared.entry.Entry.{Entry}
use Rattle.histories.specs.Journeys.{Arrival}
use Rattle.histories.specs.States.{entry_of}
use Rattle.histories.specs.Happenings.{arrive}
use Rattle.place_history.specs.PlaceState.{PlaceState, after_event}
use Rattle.locked_place.specs.declared.arrivals.Placed.{Placed}
use Rattle.locked_place.specs.declared.arrivals.Placed.TheVariants as placed
use Rattle.locked_place.specs.Arrivals.{HasBegun, HasArrived}
use Rattle.locked_place.specs.Mails.{MailsGoOn}
use Rattle.locked_place.specs.Turns.{HasSender, PlacesAs}
use Rattle.locked_place.specs.Views.{AreNotified, port_at, port_of}

module _ (a : Arrival) (time : ℕ) (before now : PlaceState) (olds : ℕ → Option SenderView) where
  -- the entries once it has happened, with room or without
  abbrev pub entered : Bool → List Entry
  entered room = before.entries ++ entry_of before.entries a.queue (arrive a room) ∷ []

  -- no notice was offered, and the packet came back
  pub came_back : (o : Outcome) (back : Card) → HasBegun a (begun.Back o back) before olds now →
      AreNotified (entered true) olds → MailsGoOn time before.entries olds (entered true) olds →
      HasArrived a time before olds now olds (placed.Back o back)
  came_back o back was notified mailed =
      subst (λ (p : PlaceState). HasArrived a time before olds p olds (placed.Back o back))
      (sym was.now_so)
      (record {
        arrives = record {
          room = true;
          early = λ decided. refl;
          places = was.begins.1;
          entered = refl;
        };
        sender = tt;
        settled = record { no_offer = refl; standing = was.settled.standing };
        same_number = refl;
        same_places = refl;
        notified = notified;
        mailed = mailed;
      })

  -- a notice was offered, for the port that the queue is bound to
  module _ (port : ℕ) (letter : Letter)
      (was : HasBegun a (begun.Offered port letter) before olds now) where
    pub offered_to : port_at before.entries a.queue ≡ Some port
    offered_to = ap port_of was.begins.state ∙ ap Some (sym was.begins.to_port)

    pub settled_so : (room : Bool) (after : PlaceState) (news : ℕ → Option SenderView)
        (p : Placed) → after ≡ after_event before a.queue (arrive a room) →
        PlacesAs p a room before.entries → HasSender olds p →
        AreNotified (entered room) news →
        MailsGoOn time before.entries olds (entered room) news →
        HasArrived a time before olds after news p
    settled_so room after news p state places sender notified mailed =
        subst (λ (s : PlaceState). HasArrived a time before olds s news p) (sym state)
        (record {
          arrives = record {
            room = room;
            early = λ decided. absurd (cc (rw was.begins.state at decided, was.begins.undecided));
            places = places;
            entered = refl;
          };
          sender = sender;
          settled = record { no_offer = refl; standing = was.settled.standing };
          same_number = refl;
          same_places = refl;
          notified = notified;
          mailed = mailed;
        })
