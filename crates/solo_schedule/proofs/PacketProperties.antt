-- Where each packet that arrives and each payload that is asked for is within bounds, so is each
-- packet that waits and each that leaves.
use Rattle.std.proofs.Common.{◌≤◌, ℕ, List, length, Option, Some, None, arith}
use Rattle.std.specs.Prelude.{IfSome}
use Rattle.std.specs.List.{AllByRecursion}
use Rattle.packet_entry.specs.declared.packet.Card.{Card}
use Rattle.packet_entry.specs.Card.{edited}
use Rattle.packet_entry.specs.Numbers.{longest_packet, longest_payload}
use Rattle.nfqa_msgs.specs.declared.request.Request.TheVariants.{Config, Verdict, Batch}
use Rattle.nfqa_msgs.specs.RequestReading.{PayloadFits}
use Rattle.queue_core.specs.declared.event.Event.{Event}
use Rattle.queue_core.specs.declared.event.Event.TheVariants.{Arrive, Ask, PortClosed, DeviceDown}
use Rattle.queue_core.specs.Holding.{Keeps, AllLeave}
use Rattle.histories.specs.declared.entry.Entry.{Entry}
use Rattle.histories.specs.States.{step_of}
use Rattle.histories.specs.Holding.{weaker, leaving_holds}

-- no longer than a frame may be
abbrev pub IsSmall : Card → Type 0
IsSmall c = length c.bytes ≤ longest_packet

-- an event within bounds
abbrev pub Fits : Event → Type 0
Fits (Arrive card bypass room) = IsSmall card
Fits (Ask port call request) = PayloadFits request
Fits (PortClosed port) = Unit {0}
Fits (DeviceDown device) = Unit {0}

abbrev pub Fitting : Entry → Type 0
Fitting e = Fits e.event

abbrev pub AllFit : List Entry → Type 0
AllFit es = AllByRecursion Fitting es

edited_small : (c : Card) (mark : Option ℕ) (payload : Option (List ℕ)) (priority : Option ℕ) →
    IsSmall c → IfSome payload (λ bytes. length bytes ≤ longest_payload) →
    IsSmall (edited c mark payload priority)
edited_small c mark None priority small fits = small
edited_small c mark (Some bytes) priority small fits = omega (arith, fits)

keeps : (e : Event) → Fits e → Keeps IsSmall e
keeps (Arrive card bypass room) fits = fits
keeps (Ask port call (Config queue command params maximum flags mask)) fits = tt
keeps (Ask port call (Verdict queue head mark payload priority)) fits =
    λ c small. edited_small c mark payload priority small fits
keeps (Ask port call (Batch queue head mark priority)) fits =
    λ c small. edited_small c mark None priority small tt
keeps (PortClosed port) fits = tt
keeps (DeviceDown device) fits = tt

pub leaving_small : (es : List Entry) (queue : ℕ) (event : Event) → AllFit es → Fits event →
    AllLeave IsSmall (step_of es queue event).left
leaving_small es queue event fit fits =
    leaving_holds IsSmall es queue event
    (weaker Fitting (λ (e : Entry). Keeps IsSmall e.event) (λ e. keeps e.event) es fit)
    (keeps event fits)
