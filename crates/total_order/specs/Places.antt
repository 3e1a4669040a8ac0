-- What is known at places that each have a list: the steps of each place with their times, and of
-- each step what it rests on, as a beginning of some place's list shows it.
use Rattle.std.specs.Prelude.{◌≡◌, ◌<◌, ◌≤◌, ℕ, List, [], ◌∷◌, take, slice_get, Some}
use mathlib.Core.List.{IsPrefix}
use Rattle.queue_core.specs.declared.event.Event.{Event}
use Rattle.queue_core.specs.declared.event.Event.TheVariants.{Arrive, Ask, PortClosed, DeviceDown}
use Rattle.histories.specs.declared.entry.Entry.{Entry}
use Rattle.histories.specs.declared.log.Did.{Did}
use Rattle.histories.specs.declared.log.Did.TheVariants.{Received, Sent, Closed}
use Rattle.histories.specs.declared.log.PortLog.{PortLog}
use Rattle.histories.specs.declared.histories.Histories.{Histories}
use Rattle.histories.specs.History.{history}
use Rattle.histories.specs.Places.{place_for}
use Rattle.total_order.specs.Orders.{EachIs, Pairs, untimed, MayBeEarlier}
use Rattle.total_order.specs.Steps.{Step, Has, HasCome, taken, log_of, IsSent}
use Rattle.total_order.specs.TotalOrder.{entries, queue_of, IsCaused, InLogOrder}

-- the steps of each place, in the order of its list, each with its time
abbrev pub Lists : Type 0
Lists = ℕ → List (Step × ℕ)

-- ---- what is known

-- It is so of a beginning of some place's list, all of which is earlier than this time.
pub record IsKnown (places : ℕ) (lists : Lists) (time : ℕ) (Q : List Entry → Type 0) : Type 0 where
  pub place : ℕ
  pub within : place < places
  pub front : List (Step × ℕ)
  pub begins : IsPrefix front (lists place)
  pub early : EachIs (λ x. x.1 < time) front
  pub so : Q (entries (untimed front))

-- of each notice that was received among these, the arrival is known
abbrev pub AreHeard : ℕ → Lists → ℕ → List Did → Type 0
AreHeard places lists time [] = Unit {0}
AreHeard places lists time (Received queue number visit ∷ ds) =
    IsKnown places lists time (λ es. Has number visit (taken (history queue es)))
    × AreHeard places lists time ds
AreHeard places lists time (Sent call ask answer ∷ ds) = AreHeard places lists time ds
AreHeard places lists time (Closed ∷ ds) = AreHeard places lists time ds

-- What is known of what a step rests on: where its packet left, what its port had received when it
-- asked, or all that a port received that closes.
abbrev pub IsKnownAs : ℕ → Lists → List PortLog → ℕ → ℕ → Event → Type 0
IsKnownAs places lists logs time at (Arrive card bypass room) =
    IsKnown places lists time (HasCome card.number card.visit)
IsKnownAs places lists logs time at (Ask port call request) =
    IsSent call (slice_get (log_of port logs) at)
    × AreHeard places lists time (take at (log_of port logs))
IsKnownAs places lists logs time at (PortClosed port) =
    AreHeard places lists time (log_of port logs)
IsKnownAs places lists logs time at (DeviceDown device) = Unit {0}

-- ---- all places

-- The entries of a place are of its queues, and their times don't descend.
pub record IsListAt (places k : ℕ) (xs : List (Step × ℕ)) : Type 0 where
  pub here : EachIs (λ x. place_for x.0.entry.queue places ≡ k) xs
  pub rise : Pairs (λ x y. x.1 ≤ y.1) xs

-- The lists of all places, once nothing more happens, of these histories: each queue's history is
-- in its place's list, what each step rests on is known, and of each two steps the one may come
-- before the other, unless it is later.
pub record AreTimedLists (places : ℕ) (lists : Lists) (h : Histories) : Type 0 where
  pub some : 0 < places
  pub each : (k : ℕ) → k < places → IsListAt places k (lists k)
  pub same : (queue : ℕ) → history queue h.entries
      ≡ history queue (entries (untimed (lists (place_for queue places))))
  pub known : (k : ℕ) → k < places →
      EachIs (λ x. IsKnownAs places lists h.logs x.1 x.0.at x.0.entry.event) (lists k)
  pub kept : (k j i l : ℕ) (x y : Step × ℕ) → k < places → j < places →
      slice_get (lists k) i ≡ Some x → slice_get (lists j) l ≡ Some y →
      ((k ≡ j) × (i ≡ l) → ⊥) → MayBeEarlier queue_of (IsCaused h.logs) InLogOrder x y
