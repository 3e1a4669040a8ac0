-- Stays: over a history as many packets left or still wait as arrived.
use Rattle.std.proofs.Common.{◌≡◌, ℕ, ◌+◌, List, [], ◌∷◌, ◌++◌, Option, Bool, refl, arith}
use Rattle.std.proofs.lemmas.List.Sums.{sum_by-append}
use Rattle.packet_entry.specs.declared.packet.Card.{Card}
use Rattle.queue_core.specs.declared.event.Event.{Event}
use Rattle.queue_core.specs.State.{Bound}
use Rattle.queue_core.specs.Step.{step}
use Rattle.queue_core.specs.Laws.{times, waiting_in, arriving, leaving_in, IsConserving}
use Rattle.histories.specs.declared.entry.Entry.{Entry}
use Rattle.histories.specs.History.{replay_from}
use Rattle.histories.specs.Stays.{arrivals, departures_from}

times_on : (test : ℕ → ℕ → Bool) (xs ys : List Card) →
    times test (xs ++ ys) ≡ times test xs + times test ys
times_on test xs ys = sum_by-append _ xs ys

pub stays : ((q : Option Bound) (e : Event) → IsConserving q e) → (q : Option Bound)
    (es : List Entry) (test : ℕ → ℕ → Bool)
    → times test (waiting_in (replay_from q es)) + times test (departures_from q es)
    ≡ times test (waiting_in q) + times test (arrivals es)
stays keeps q [] test = refl
stays keeps q (e ∷ es) test = omega (
  arith,
  keeps q e.event test,
  stays keeps (step q e.event).state es test,
  times_on test (arriving e.event) (arrivals es),
  times_on test (leaving_in (step q e.event)) (departures_from (step q e.event).state es),
)
