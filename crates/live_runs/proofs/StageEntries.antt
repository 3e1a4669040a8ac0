-- What each stage's passes append is of the stage, and so are the kinds of what they send.
use Rattle.std.proofs.Common.{◌∷◌, ◌≤◌, Bool, List, [], ap, arith, false, inl, inr, length, refl}
use Rattle.std.proofs.Common.{suc, true, ℕ}
use Rattle.std.proofs.lemmas.Bool.{ne_eqb}
use Rattle.std.specs.Prelude.{◌==◌, if◌then◌else◌}
use Rattle.queue_core.specs.declared.event.Event.{Event}
use Rattle.queue_core.specs.declared.event.Event.TheVariants.{Arrive, Ask, DeviceDown, PortClosed}
use Rattle.histories.specs.declared.entry.Entry.{Entry}
use Rattle.run_parts.specs.Order.{Answers, Ends, Opens}
use Rattle.run_parts.specs.Ports.{place_in}
use Rattle.run_parts.specs.Underway.{IsNow}
use Rattle.live_runs.specs.Meetings.{IsAsk, IsAskEvent}
use Rattle.live_runs.specs.Owners.{IsAskingEvent, IsAskingOf, IsEventOf, IsFeeders, IsFeedersEvent}
use Rattle.live_runs.specs.Owners.{IsOf}
use Rattle.live_runs.specs.Seen.{EachIs}
use Rattle.live_runs.specs.Stages.{IsPlain, IsPlainEvent, IsRanked}
use Rattle.live_runs.proofs.Marks.{each_as}

late_none : (ports : List ℕ) (late : ℕ) (visit : ℕ) → 2 ≤ visit →
    IsNow late (if visit == 1 then 0 ∷ [] else [])
late_none ports late visit later =
    rw (ne_eqb visit 1 (λ same. absurd (omega (arith, same, later)))) (inl refl)

-- what an open port appends, at any stage behind the openings
asking_plain : (ports : List ℕ) (late port : ℕ) (event : Event) → IsAskingEvent port event →
    IsPlainEvent ports (length ports) late event
asking_plain ports late port (Arrive card bypass room) later =
    (refl, late_none ports late card.visit later)
asking_plain ports late port (Ask by call r) is = tt
asking_plain ports late port (PortClosed closed) wrong = absurd wrong
asking_plain ports late port (DeviceDown device) wrong = absurd wrong

-- what is fed, while no port ends
feeders_plain : (ports : List ℕ) (event : Event) → IsFeedersEvent event →
    IsPlainEvent ports (length ports) 0 event
feeders_plain ports (Arrive card bypass room) is = (refl, by (card.visit == 1))
  where
    by : (c : Bool) → IsNow 0 (if c then 0 ∷ [] else [])
    by true = inr refl
    by false = inl refl
feeders_plain ports (Ask by call r) wrong = absurd wrong
feeders_plain ports (PortClosed closed) wrong = absurd wrong
feeders_plain ports (DeviceDown device) is = (refl, inr refl)

-- what a port that ends appends
ending_plain : (ports : List ℕ) (port : ℕ) (event : Event) → IsEventOf port event →
    IsPlainEvent ports (length ports) (suc (place_in port ports)) event
ending_plain ports port (Arrive card bypass room) later =
    (refl, late_none ports (suc (place_in port ports)) card.visit later)
ending_plain ports port (Ask by call r) is = tt
ending_plain ports port (PortClosed closed) is =
    (refl, inr (ap (λ p. suc (place_in p ports) ∷ []) is))
ending_plain ports port (DeviceDown device) wrong = absurd wrong

ask_plain : (ports : List ℕ) (early late : ℕ) (event : Event) → IsAskEvent event →
    IsPlainEvent ports early late event
ask_plain ports early late (Arrive card bypass room) wrong = absurd wrong
ask_plain ports early late (Ask by call r) is = tt
ask_plain ports early late (PortClosed closed) wrong = absurd wrong
ask_plain ports early late (DeviceDown device) wrong = absurd wrong

pub asked_is_plain : (ports : List ℕ) (late port : ℕ) (e : Entry) → IsAskingOf port e →
    IsPlain ports (length ports) late e
asked_is_plain ports late port e is = asking_plain ports late port e.event is

pub fed_is_plain : (ports : List ℕ) (e : Entry) → IsFeeders e → IsPlain ports (length ports) 0 e
fed_is_plain ports e is = feeders_plain ports e.event is

pub ending_is_plain : (ports : List ℕ) (port : ℕ) (e : Entry) → IsOf port e →
    IsPlain ports (length ports) (suc (place_in port ports)) e
ending_is_plain ports port e is = ending_plain ports port e.event is

pub asks_are_plain : (ports : List ℕ) (early late : ℕ) (es : List Entry) → EachIs IsAsk es →
    EachIs (IsPlain ports early late) es
asks_are_plain ports early late =
    each_as IsAsk (IsPlain ports early late) (λ e is. ask_plain ports early late e.event is)

-- ---- kinds

pub opens_here : (ports : List ℕ) (port : ℕ) → IsRanked ports (place_in port ports) 0 port Opens
opens_here ports port = (λ call r. refl, inl refl)

pub answers_here : (ports : List ℕ) (late port : ℕ) →
    IsRanked ports (length ports) late port Answers
answers_here ports late port = (λ call r. refl, inl refl)

pub ends_here : (ports : List ℕ) (port : ℕ) →
    IsRanked ports (length ports) (suc (place_in port ports)) port Ends
ends_here ports port = (λ call r. refl, inr refl)
