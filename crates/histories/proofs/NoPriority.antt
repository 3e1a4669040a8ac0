-- Where no packet brings a priority and no request gives one, what waits and what leaves has none.
use Rattle.std.proofs.Common.{◌≡◌, ℕ, List, [], ◌∷◌, ◌++◌, Option, None, sym, subst}
use Rattle.std.specs.Prelude.{unwrap_or, All}
use Rattle.std.proofs.lemmas.List.Elements.{All-from_recursion, All-head, All-tail}
use Rattle.packet_entry.specs.declared.packet.Card.{Card}
use Rattle.nfqa_msgs.specs.declared.request.Request.TheVariants.{Config, Verdict, Batch}
use Rattle.queue_core.specs.declared.event.Event.{Event}
use Rattle.queue_core.specs.declared.event.Event.TheVariants.{Arrive, Ask, PortClosed, DeviceDown}
use Rattle.queue_core.specs.Step.{Way, step}
use Rattle.queue_core.specs.Holding.{Keeps}
use Rattle.histories.specs.declared.entry.Entry.{Entry}
use Rattle.histories.specs.States.{state_of}
use Rattle.histories.specs.Priorities.{BringsNone}
use Rattle.histories.specs.Holding.{AllKeep, leaving_holds}

abbrev IsPlain : Card → Type 0
IsPlain card = card.priority ≡ 0

edited_plain : (priority : Option ℕ) (card : Card) → priority ≡ None → IsPlain card →
    unwrap_or priority card.priority ≡ 0
edited_plain priority card none plain =
    subst (λ (p : Option ℕ). unwrap_or p card.priority ≡ 0) (sym none) plain

keeps : (event : Event) → BringsNone event → Keeps IsPlain event
keeps (Arrive card bypass room) none = none
keeps (Ask port call (Config queue command params maximum flags mask)) none = tt
keeps (Ask port call (Verdict queue head mark payload priority)) none =
    λ card plain. edited_plain priority card none plain
keeps (Ask port call (Batch queue head mark priority)) none =
    λ card plain. edited_plain priority card none plain
keeps (PortClosed port) none = tt
keeps (DeviceDown device) none = tt

-- entries, and one more
abbrev Brings : Entry → Type 0
Brings e = BringsNone e.event

split : (es : List Entry) (e : Entry) → All Brings (es ++ e ∷ []) →
    AllKeep IsPlain es × Keeps IsPlain e.event
split [] e all = (tt, keeps e.event (All-head Brings e [] all))
split (f ∷ es) e all =
    let more = split es e (All-tail Brings f (es ++ e ∷ []) all) in
    ((keeps f.event (All-head Brings f (es ++ e ∷ []) all), more.0), more.1)

pub leave_none : (es : List Entry) (e : Entry) →
    All (λ (x : Entry). BringsNone x.event) (es ++ e ∷ []) →
    All (λ (l : Card × Way). IsPlain l.0) (step (state_of es e.queue) e.event).left
leave_none es e all =
    let two = split es e all in
    All-from_recursion (λ (l : Card × Way). IsPlain l.0) _
    (leaving_holds IsPlain es e.queue e.event two.0 two.1)
