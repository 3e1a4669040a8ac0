-- Packets that wait at legal histories have been queued 1 to 32 times.
use Rattle.std.proofs.Common.{◌≡◌, ◌≢◌, ◌≤◌, ℕ, List, [], ◌∷◌, Option, None}
use Rattle.std.proofs.Common.{refl, inl, inr, arith}
use Rattle.std.specs.Prelude.{◌==◌}
use Rattle.std.proofs.lemmas.Bool.{cases_Bool, eqb-false}
use Rattle.std.proofs.lemmas.Bool.Decides.{nat_tests}
use Rattle.packet_entry.specs.Numbers.{last_visit}
use Rattle.queue_core.specs.declared.event.Event.{Event}
use Rattle.queue_core.specs.declared.event.Event.TheVariants.{Arrive, Ask, PortClosed, DeviceDown}
use Rattle.queue_core.specs.State.{Bound}
use Rattle.queue_core.specs.Step.{step}
use Rattle.queue_core.specs.Laws.{times, waiting_in}
use Rattle.histories.specs.declared.entry.Entry.{Entry}
use Rattle.histories.specs.History.{IsAllowed, IsLegalFrom, AreLegal, history, replay_from}
use Rattle.packet_moves.specs.HandedOn.{is_out_of_time, WaitInTime}
use Rattle.packet_moves.proofs.LowerLaws.{Laws}
use Rattle.packet_moves.proofs.OnwardCounts.{once, out_of_time}

in_time : (visit : ℕ) → 1 ≤ visit → visit ≤ last_visit → visit ≢ last_visit →
    once (is_out_of_time visit) ≡ 0
in_time visit first last early = grind (arith, nat_tests)

step_keeps_time : Laws → (q : Option Bound) (e : Event) → IsAllowed q e →
    times out_of_time (waiting_in q) ≡ 0 → times out_of_time (waiting_in (step q e).state) ≡ 0
step_keeps_time laws q (Arrive card bypass room) (first, last, early) none =
    elim (cases_Bool (card.visit == last_visit)) [
      | inl is ↦ rw is none
      | inr is ↦ omega (
        arith,
        laws.conserves q (Arrive card bypass room) out_of_time,
        none,
        in_time card.visit first last (eqb-false card.visit last_visit is),
      )
    ]
step_keeps_time laws q (Ask port call request) allowed none =
    omega (arith, laws.conserves q (Ask port call request) out_of_time, none)
step_keeps_time laws q (PortClosed port) allowed none =
    omega (arith, laws.conserves q (PortClosed port) out_of_time, none)
step_keeps_time laws q (DeviceDown device) allowed none =
    omega (arith, laws.conserves q (DeviceDown device) out_of_time, none)

all_keep_time : Laws → (q : Option Bound) (es : List Entry) → IsLegalFrom q es →
    times out_of_time (waiting_in q) ≡ 0 →
    times out_of_time (waiting_in (replay_from q es)) ≡ 0
all_keep_time laws q [] legal none = none
all_keep_time laws q (e ∷ es) (one, legal) none =
    all_keep_time laws (step q e.event).state es legal
    (step_keeps_time laws q e.event one.allowed none)

pub wait_in_time : Laws → (es : List Entry) → AreLegal es → WaitInTime es
wait_in_time laws es legal queue =
    all_keep_time laws None (history queue es) (legal queue) refl
