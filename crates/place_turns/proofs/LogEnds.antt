-- Passes stay timely as their port's log says that it closed.
use Rattle.std.proofs.Common.{ℕ, suc, List, [], ◌∷◌, ◌++◌, sym, subst, arith}
use Rattle.std.proofs.Common.{length-append}
use Rattle.mailbox.specs.declared.view.Post.{Post}
use Rattle.queue_core.specs.declared.event.Event.{Event}
use Rattle.queue_core.specs.declared.event.Event.TheVariants.{Arrive, Ask, PortClosed, DeviceDown}
use Rattle.histories.specs.declared.log.Did.{Did}
use Rattle.histories.specs.declared.log.Did.TheVariants.{Closed}
use Rattle.place_rows.specs.Rows.{TimedKnown}
use Rattle.place_turns.specs.Timely.{RestsOn, AreEarly, AreTimely, port_with}
use Rattle.place_turns.proofs.EarlyLetters.{sent_still, front_still, early_closed, all_closed}

rests_closed : (row : List TimedKnown) (port : ℕ) (dids : List Did) (heard : List Post)
    (time at : ℕ) (event : Event) → RestsOn row (port_with port dids heard) time at event →
    RestsOn row (port_with port (dids ++ Closed ∷ []) heard) time at event
rests_closed row port dids heard time at (Arrive card bypass room) r = r
rests_closed row port dids heard time at (Ask by_ call request) r =
    let few = r.1 in (
      r.0,
      omega (arith, few, length-append dids (Closed ∷ [])),
      sent_still call at dids (Closed ∷ []) few r.2,
      subst (λ (ds : List Did). AreEarly time ds heard)
          (sym (front_still at dids (Closed ∷ []) few)) r.3,
    )
rests_closed row port dids heard time at (PortClosed by_) r =
    (r.0, early_closed time dids heard r.1)
rests_closed row port dids heard time at (DeviceDown device) r = tt

pub closed_timely : (clock : ℕ) (row : List TimedKnown) (port : ℕ) (dids : List Did)
    (heard : List Post) → AreTimely clock row (port_with port dids heard) →
    AreTimely clock row (port_with port (dids ++ Closed ∷ []) heard)
closed_timely clock row port dids heard is = record {
  late = is.late;
  told = all_closed (suc clock) dids heard is.told;
  position = is.position;
  own = λ k i x own.
      rests_closed row port dids heard x.1 (is.position k i) x.0.event (is.own k i x own);
  kept = is.kept;
}
