-- One order of all, as the list of one place: positions are times.
use Rattle.std.proofs.Common.{◌≡◌, ◌<◌, ◌≤◌, ◌+◌, ℕ, zero, suc, List, [], ◌∷◌, ◌++◌, refl, sym}
use Rattle.std.proofs.Common.{ap, subst, ◌∙◌, arith, take, length, slice_get, Some, append_assoc}
use Rattle.std.proofs.Common.{length-append}
use Rattle.queue_core.specs.declared.event.Event.{Event}
use Rattle.queue_core.specs.declared.event.Event.TheVariants.{Arrive, Ask, PortClosed, DeviceDown}
use Rattle.histories.specs.declared.entry.Entry.{Entry}
use Rattle.histories.specs.declared.histories.Histories.{Histories}
use Rattle.histories.specs.declared.log.Did.{Did}
use Rattle.histories.specs.declared.log.Did.TheVariants.{Received, Sent, Closed}
use Rattle.histories.specs.declared.log.PortLog.{PortLog}
use Rattle.histories.specs.History.{history}
use Rattle.histories.specs.Places.{place_for}
use Rattle.total_order.specs.Orders.{EachIs, untimed, AreCaused, AreTimes, MayBeEarlier}
use Rattle.total_order.specs.Steps.{Step, Has, HasCome, taken, log_of, AreTaken, IsCausedAs}
use Rattle.total_order.specs.TotalOrder.{entries, queue_of, IsCaused, InLogOrder, IsTotalOrder}
use Rattle.total_order.specs.TotalOrder.{HasTotalOrder}
use Rattle.total_order.specs.Places.{Lists, IsKnown, AreHeard, IsKnownAs, IsListAt, AreTimedLists}
use Rattle.total_order.proofs.Lists.{each_by_position, pairs_at, pairs_map}
use Rattle.total_order.proofs.ClocksByOrder.{numbered, untimed_numbered, clocks_by_order}
use Rattle.total_order.proofs.ClocksByOrder.{Apart, apart_numbered}

-- ---- what was before is known

module _ (places : ℕ) (lists : Lists) (time : ℕ) (before : List Entry)
    (known : (Q : List Entry → Type 0) → Q before → IsKnown places lists time Q) where
  heard_of : (ds : List Did) → AreTaken ds before → AreHeard places lists time ds
  heard_of [] h = tt
  heard_of (Received queue number visit ∷ ds) h =
      (known (λ es. Has number visit (taken (history queue es))) h.0, heard_of ds h.1)
  heard_of (Sent call ask answer ∷ ds) h = heard_of ds h
  heard_of (Closed ∷ ds) h = heard_of ds h

  known_of_cause : (logs : List PortLog) (at : ℕ) (event : Event) →
      IsCausedAs logs before at event → IsKnownAs places lists logs time at event
  known_of_cause logs at (Arrive card bypass room) h = known (HasCome card.number card.visit) h
  known_of_cause logs at (Ask port call request) h =
      (h.sent, heard_of (take at (log_of port logs)) h.heard)
  known_of_cause logs at (PortClosed port) h = heard_of (log_of port logs) h
  known_of_cause logs at (DeviceDown device) h = tt

-- ---- positions

numbered_append : (n : ℕ) (xs ys : List Step) →
    numbered n (xs ++ ys) ≡ numbered n xs ++ numbered (n + length xs) ys
numbered_append n [] ys = let e : n ≡ n + 0 = omega arith in ap (λ k. numbered k ys) e
numbered_append n (x ∷ xs) ys =
    let e : (n + 1) + length xs ≡ n + suc (length xs) = omega arith in
    ap (λ zs. (x, n) ∷ zs) (numbered_append (n + 1) xs ys
    ∙ ap (λ k. numbered (n + 1) xs ++ numbered k ys) e)

-- each is below the end
numbered_low : (end n : ℕ) (xs : List Step) → n + length xs ≤ end →
    EachIs (λ x. x.1 < end) (numbered n xs)
numbered_low end n [] l = tt
numbered_low end n (x ∷ xs) l = (omega (arith, l), numbered_low end (n + 1) xs (omega (arith, l)))

-- ---- the list of one place

-- at place 0
abbrev alone : List (Step × ℕ) → Lists
alone xs zero = xs
alone xs (suc k) = []

module _ (h : Histories) (all : List Step) (order : IsTotalOrder h all) where
  abbrev one : Lists
  one = alone (numbered 0 all)

  known_first_of : (before rest : List Step) → all ≡ before ++ rest → (Q : List Entry → Type 0) →
      Q (entries before) → IsKnown 1 one (length before) Q
  known_first_of before rest e Q so = record {
    place = 0;
    within = omega arith;
    front = numbered 0 before;
    begins = (
      numbered (0 + length before) rest,
      sym (numbered_append 0 before rest) ∙ ap (λ zs. numbered 0 zs) (sym e),
    );
    early = numbered_low (length before) 0 before (omega arith);
    so = subst (λ zs. Q (entries zs)) (sym (untimed_numbered 0 before)) so;
  }

  known_from : (before rest : List Step) → all ≡ before ++ rest →
      AreCaused (IsCaused h.logs) before rest →
      EachIs (λ x. IsKnownAs 1 one h.logs x.1 x.0.at x.0.entry.event)
      (numbered (length before) rest)
  known_from before [] e caused = tt
  known_from before (s ∷ rest) e caused = (
    known_of_cause 1 one (length before) (entries before)
        (known_first_of before (s ∷ rest) e) h.logs s.at s.entry.event caused.0,
    subst (λ n. EachIs (λ x. IsKnownAs 1 one h.logs x.1 x.0.at x.0.entry.event)
        (numbered n rest)) (length-append before (s ∷ []))
        (known_from (before ++ s ∷ []) rest (e ∙ sym (append_assoc before (s ∷ []) rest))
        caused.1),
  )

  times : AreTimes queue_of (IsCaused h.logs) InLogOrder (numbered 0 all)
  times = clocks_by_order queue_of (IsCaused h.logs) InLogOrder all order.caused order.kept

  only_first : (k : ℕ) → k < 1 → 0 ≡ k
  only_first k l = omega (arith, l)

  module _ (has_place : (queue places : ℕ) → 0 < places → place_for queue places < places) where
    first_place : (queue : ℕ) → 0 ≡ place_for queue 1
    first_place queue = only_first (place_for queue 1) (has_place queue 1 (omega arith))

    list_at : IsListAt 1 0 (numbered 0 all)
    list_at = record {
      here = each_by_position (λ x. place_for x.0.entry.queue 1 ≡ 0) (numbered 0 all)
          (λ i x e. sym (first_place x.0.entry.queue));
      rise = pairs_map (Apart queue_of (IsCaused h.logs) InLogOrder) (λ x y. x.1 ≤ y.1)
          (numbered 0 all) (λ x y a. let l = a.1 in omega arith)
          (apart_numbered queue_of (IsCaused h.logs) InLogOrder 0 all order.kept);
    }

    kept_at : (k j i l : ℕ) (x y : Step × ℕ) → k < 1 → j < 1 →
        slice_get (one k) i ≡ Some x → slice_get (one j) l ≡ Some y →
        ((k ≡ j) × (i ≡ l) → ⊥) → MayBeEarlier queue_of (IsCaused h.logs) InLogOrder x y
    kept_at zero zero i l x y a b e f ne =
        pairs_at (MayBeEarlier queue_of (IsCaused h.logs) InLogOrder) (numbered 0 all)
        times.kept i l x y e f (λ same. ne (refl, same))
    kept_at zero (suc j) i l x y a b e f ne = absurd (omega (arith, b))
    kept_at (suc k) j i l x y a b e f ne = absurd (omega (arith, a))

    pub one_timed : AreTimedLists 1 one h
    one_timed = record {
      some = omega arith;
      each = λ k l. subst (λ j. IsListAt 1 j (one j)) (only_first k l) list_at;
      same = λ queue. sym (order.same queue)
          ∙ ap (λ zs. history queue (entries zs)) (sym (untimed_numbered 0 all))
          ∙ ap (λ k. history queue (entries (untimed (one k)))) (first_place queue);
      known = λ k l. subst
          (λ j. EachIs (λ x. IsKnownAs 1 one h.logs x.1 x.0.at x.0.entry.event) (one j))
          (only_first k l) (known_from [] all refl order.caused);
      kept = kept_at;
    }

pub timed_of_order : ((queue places : ℕ) → 0 < places → place_for queue places < places) →
    (h : Histories) → HasTotalOrder h → (lists : Lists) × AreTimedLists 1 lists h
timed_of_order has_place h order =
    (alone (numbered 0 order.0), one_timed h order.0 order.1 has_place)
