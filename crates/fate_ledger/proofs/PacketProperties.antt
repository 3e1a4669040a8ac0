-- What holds of the packets that arrive, and stays where a verdict edits them, holds of those that
-- leave.
use Rattle.std.proofs.Common.{ℕ, List, Option, None}
use Rattle.std.specs.Prelude.{IfSome}
use Rattle.std.specs.List.{AllByRecursion}
use Rattle.packet_entry.specs.declared.packet.Card.{Card}
use Rattle.packet_entry.specs.Card.{edited}
use Rattle.nfqa_msgs.specs.declared.request.Request.TheVariants.{Config, Verdict, Batch}
use Rattle.queue_core.specs.declared.event.Event.{Event}
use Rattle.queue_core.specs.declared.event.Event.TheVariants.{Arrive, Ask, PortClosed, DeviceDown}
use Rattle.queue_core.specs.Holding.{Property, Keeps, AllLeave}
use Rattle.histories.specs.declared.entry.Entry.{Entry}
use Rattle.histories.specs.States.{step_of}
use Rattle.histories.specs.Holding.{weaker, leaving_holds}
use Rattle.fate_ledger.specs.Origins.{GivenIn}

-- what edits keep, with payloads of which this holds
abbrev pub Stays : (List ℕ → Type 0) → Property → Type 0
Stays Given F =
    (c : Card) (mark : Option ℕ) (payload : Option (List ℕ)) (priority : Option ℕ) → F c →
    IfSome payload Given → F (edited c mark payload priority)

-- it holds of the packet of an event that is an arrival, and that of a request's payload
abbrev pub Fits : (List ℕ → Type 0) → Property → Event → Type 0
Fits Given F (Arrive card bypass room) = F card
Fits Given F (Ask port call request) = GivenIn Given request
Fits Given F (PortClosed port) = Unit {0}
Fits Given F (DeviceDown device) = Unit {0}

abbrev pub Fitting : (List ℕ → Type 0) → Property → Entry → Type 0
Fitting Given F e = Fits Given F e.event

abbrev pub AllFit : (List ℕ → Type 0) → Property → List Entry → Type 0
AllFit Given F es = AllByRecursion (Fitting Given F) es

module _ (Given : List ℕ → Type 0) (F : Property) (stays : Stays Given F) where
  keeps : (e : Event) → Fits Given F e → Keeps F e
  keeps (Arrive card bypass room) fits = fits
  keeps (Ask port call (Config queue command params maximum flags mask)) fits = tt
  keeps (Ask port call (Verdict queue head mark payload priority)) fits =
      λ c holds. stays c mark payload priority holds fits
  keeps (Ask port call (Batch queue head mark priority)) fits =
      λ c holds. stays c mark None priority holds tt
  keeps (PortClosed port) fits = tt
  keeps (DeviceDown device) fits = tt

  pub leaving_fits : (es : List Entry) (queue : ℕ) (event : Event) → AllFit Given F es →
      Fits Given F event → AllLeave F (step_of es queue event).left
  leaving_fits es queue event fit fits =
      leaving_holds F es queue event
      (weaker (Fitting Given F) (λ (e : Entry). Keeps F e.event) (λ e. keeps e.event) es fit)
      (keeps event fits)
