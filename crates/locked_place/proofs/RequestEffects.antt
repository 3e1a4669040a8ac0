-- Requests: whom they leave a queue bound to, and that they put in no notice.
use Rattle.std.proofs.Common.{◌≡◌, ℕ, List, [], ◌∷◌, ◌++◌, Option, Some, None, false}
use Rattle.std.proofs.Common.{refl, inl, inr}
use Rattle.std.specs.Prelude.{IsSome, option_map, ◌==◌}
use Rattle.std.proofs.lemmas.Bool.{cases_Bool}
use Rattle.nfqa_msgs.specs.declared.request.Request.{Request}
use Rattle.queue_core.specs.State.{Bound}
use Rattle.queue_core.specs.declared.event.Event.TheVariants.{Ask}
use Rattle.queue_core.specs.declared.event.Reply.{Reply}
use Rattle.mailbox.specs.Views.{SenderView}
use Rattle.histories.specs.declared.entry.Entry.{Entry}
use Rattle.histories.specs.States.{state_of, entry_of}
use Rattle.histories.specs.Happenings.{queue_of}
use Rattle.locked_place.specs.Points.{point_after}
use Rattle.histories.specs.Letters.{letters_under, lacks_under}
use Rattle.locked_place.specs.Mails.{MailsGoOn}
use Rattle.locked_place.specs.Views.{AreNotified}
use Rattle.locked_place.proofs.EntryPoints.{Laws}
use Rattle.locked_place.proofs.SenderSteps.{following, port_after, notified_on, mails_go_on}
use Rattle.locked_place.proofs.SenderSteps.{follows_same}

no_letters : (port : ℕ) (q : Option Bound) (queue by call : ℕ) (r : Request) (reply : Reply) →
    letters_under port q (record { queue = queue; event = Ask by call r; reply = reply }) ≡ []
no_letters port None queue by call r reply = refl
no_letters port (Some b) queue by call r reply =
    elim (cases_Bool (port == b.port)) [ inl h ↦ rw h refl | inr h ↦ rw h refl ]

no_lack : (port : ℕ) (q : Option Bound) (queue by call : ℕ) (r : Request) (reply : Reply) →
    lacks_under port q (record { queue = queue; event = Ask by call r; reply = reply }) ≡ false
no_lack port None queue by call r reply = refl
no_lack port (Some b) queue by call r reply =
    elim (cases_Bool (port == b.port)) [ inl h ↦ rw h refl | inr h ↦ rw h refl ]

-- a request
module _ (es : List Entry) (port call : ℕ) (r : Request) (senders : ℕ → Option SenderView) where
  abbrev it : Entry
  it = entry_of es (queue_of r) (Ask port call r)

  stays : (time p : ℕ) →
      senders p ≡ option_map (following time (point_after es it) p) (senders p)
  stays time p =
      follows_same time (point_after es it) p (senders p)
      (no_letters p (state_of es (queue_of r)) (queue_of r) port call r _)
      (no_lack p (state_of es (queue_of r)) (queue_of r) port call r _)

  -- of a port that has a sender
  pub asked : Laws → AreNotified es senders → IsSome (senders port) →
      AreNotified (es ++ it ∷ []) senders
  asked laws told there =
      notified_on laws es it 0 senders senders told (stays 0)
      (port_after (λ p. IsSome (senders p)) (state_of es (queue_of r)) (Ask port call r) there
      (told.known (queue_of r)))

  pub mails_asked : (time : ℕ) → MailsGoOn time es senders (es ++ it ∷ []) senders
  mails_asked time = mails_go_on time es it senders senders (stays time)
