-- What is known stays known, and what a step is known to rest on is earlier than the step.
use Rattle.std.proofs.Common.{◌≡◌, ◌<◌, ◌≤◌, ◌+◌, ℕ, zero, suc, Bool, true, false, List, []}
use Rattle.std.proofs.Common.{◌∷◌, ◌++◌, ◌≢◌, refl, sym, ap, subst, ◌∙◌, arith, take, nat_lt}
use Rattle.std.proofs.Common.{nat_eq, append_assoc}
use Rattle.std.proofs.lemmas.Bool.Decides.{nat_tests}
use Rattle.std.proofs.lemmas.List.Elements.{filter-append}
use mathlib.Core.List.{IsPrefix}
use Rattle.queue_core.specs.declared.event.Event.{Event}
use Rattle.queue_core.specs.declared.event.Event.TheVariants.{Arrive, Ask, PortClosed, DeviceDown}
use Rattle.histories.specs.declared.entry.Entry.{Entry}
use Rattle.histories.specs.declared.log.Did.{Did}
use Rattle.histories.specs.declared.log.Did.TheVariants.{Received, Sent, Closed}
use Rattle.histories.specs.declared.log.PortLog.{PortLog}
use Rattle.histories.specs.History.{history}
use Rattle.histories.specs.Places.{place_for}
use Rattle.total_order.specs.Orders.{EachIs, untimed, earlier}
use Rattle.total_order.specs.Steps.{Step, Has, HasLeft, HasCome, taken, log_of, AreTaken}
use Rattle.total_order.specs.Steps.{IsCausedAs}
use Rattle.total_order.specs.TotalOrder.{entries}
use Rattle.total_order.specs.Places.{Lists, IsKnown, AreHeard, IsKnownAs}
use Rattle.total_order.proofs.Lists.{each_map, each_front, all_pass}
use Rattle.total_order.proofs.Parts.{prefix_none}
use Rattle.total_order.proofs.Persistence.{GoOn, taken_in, come_on}
use Rattle.total_order.proofs.Joined.{joined, history_in, history_append, none_elsewhere, AreHere}
use Rattle.total_order.proofs.Joined.{history_earlier}

-- ---- it stays known

prefix_trans : {A : Type 0} (xs ys zs : List A) → IsPrefix xs ys → IsPrefix ys zs → IsPrefix xs zs
prefix_trans xs ys zs p q =
    (p.0 ++ q.0, sym (append_assoc xs p.0 q.0) ∙ ap (λ w. w ++ q.0) p.1 ∙ q.1)

-- as far as it leads to something else
pub known_so : (places : ℕ) (lists : Lists) (time : ℕ) (Q R : List Entry → Type 0) →
    ((es : List Entry) → Q es → R es) → IsKnown places lists time Q → IsKnown places lists time R
known_so places lists time Q R f k = record {
  place = k.place;
  within = k.within;
  front = k.front;
  begins = k.begins;
  early = k.early;
  so = f (entries (untimed k.front)) k.so;
}

-- a packet that arrives for the first time rests on nothing
pub known_first : (places : ℕ) (lists : Lists) (time number visit : ℕ) → 0 < places → visit ≤ 1 →
    IsKnown places lists time (HasCome number visit)
known_first places lists time number visit some first = record {
  place = 0;
  within = some;
  front = [];
  begins = prefix_none (lists 0);
  early = tt;
  so = come visit first;
}
  where
    come : (v : ℕ) → v ≤ 1 → HasCome number v []
    come zero l = tt
    come (suc zero) l = tt
    come (suc (suc v)) l = absurd (omega (arith, l))

-- and one that left may come again
pub known_next : (places : ℕ) (lists : Lists) (time number visit : ℕ) →
    IsKnown places lists time (HasLeft number visit) →
    IsKnown places lists time (HasCome number (visit + 1))
known_next places lists time number visit =
    known_so places lists time (HasLeft number visit) (HasCome number (visit + 1))
    (λ es left. come (visit + 1) refl es left)
  where
    come : (w : ℕ) → w ≡ visit + 1 → (es : List Entry) → HasLeft number visit es →
        HasCome number w es
    come zero e es left = tt
    come (suc zero) e es left = tt
    come (suc (suc v)) e es left =
        let at : visit ≡ suc v = omega (arith, e) in
        subst (λ x. HasLeft number x es) at left

module _ (places : ℕ) (before after : Lists) (time later : ℕ) (up : time ≤ later)
    (on : (k : ℕ) → k < places → IsPrefix (before k) (after k)) where
  -- at later times, and as lists go on, it stays known
  pub known_on : (Q : List Entry → Type 0) → IsKnown places before time Q →
      IsKnown places after later Q
  known_on Q k = record {
    place = k.place;
    within = k.within;
    front = k.front;
    begins =
        prefix_trans k.front (before k.place) (after k.place) k.begins (on k.place k.within);
    early = each_map (λ x. x.1 < time) (λ x. x.1 < later) k.front (λ x l. omega arith) k.early;
    so = k.so;
  }

  -- so do arrivals that are known
  pub heard_on : (ds : List Did) → AreHeard places before time ds → AreHeard places after later ds
  heard_on [] h = tt
  heard_on (Received queue number visit ∷ ds) h =
      (known_on (λ es. Has number visit (taken (history queue es))) h.0, heard_on ds h.1)
  heard_on (Sent call ask answer ∷ ds) h = heard_on ds h
  heard_on (Closed ∷ ds) h = heard_on ds h

  -- and what a step is known to rest on
  pub known_as_on : (logs : List PortLog) (at : ℕ) (event : Event) →
      IsKnownAs places before logs time at event → IsKnownAs places after logs later at event
  known_as_on logs at (Arrive card bypass room) k = known_on (HasCome card.number card.visit) k
  known_as_on logs at (Ask port call request) k =
      (k.0, heard_on (take at (log_of port logs)) k.1)
  known_as_on logs at (PortClosed port) k = heard_on (log_of port logs) k
  known_as_on logs at (DeviceDown device) k = tt

-- ---- it is so of all that is earlier

module _ (places : ℕ) (lists : Lists) (within : (queue : ℕ) → place_for queue places < places)
    (here : AreHere places lists places) (time : ℕ) where
  -- the steps of all places that are earlier
  abbrev pub so_far : List (Step × ℕ)
  so_far = earlier time (joined lists places)

  -- an early beginning of a place's list is in them
  early_first : (front xs : List (Step × ℕ)) → (p : IsPrefix front xs) →
      EachIs (λ x. x.1 < time) front → earlier time xs ≡ front ++ earlier time p.0
  early_first front xs p early = ap (λ zs. earlier time zs) (sym p.1)
      ∙ filter-append (λ x. nat_lt x.1 time) front p.0
      ∙ ap (λ zs. zs ++ earlier time p.0)
      (all_pass (λ x. nat_lt x.1 time) front
      (each_map (λ x. x.1 < time) (λ x. nat_lt x.1 time ≡ true) front
      (λ x l. grind (arith, nat_tests)) early))

  -- so each queue's history goes on from it
  front_on : (place : ℕ) → place < places → (front : List (Step × ℕ)) →
      IsPrefix front (lists place) → EachIs (λ x. x.1 < time) front →
      GoOn (entries (untimed front)) (entries (untimed so_far))
  front_on place is_one front begins early queue =
      by (nat_eq (place_for queue places) place) refl
    where
      by : (b : Bool) → nat_eq (place_for queue places) place ≡ b →
          IsPrefix (history_in queue front) (history_in queue so_far)
      by true e =
          let at : place_for queue places ≡ place = grind (arith, nat_tests) in (
            history_in queue (earlier time begins.0),
            sym (history_earlier places time lists queue (within queue) here
                ∙ ap (λ k. history_in queue (earlier time (lists k))) at
                ∙ ap (λ zs. history_in queue zs) (early_first front (lists place) begins early)
                ∙ history_append queue front (earlier time begins.0)),
          )
      by false e =
          let away : place_for queue places ≢ place = grind (arith, nat_tests) in
          subst (λ zs. IsPrefix zs (history_in queue so_far))
          (sym (none_elsewhere places place queue front away
          (each_front (λ x. place_for x.0.entry.queue places ≡ place) front begins.0
          (subst (λ zs. EachIs (λ x. place_for x.0.entry.queue places ≡ place) zs)
          (sym begins.1) (here place is_one)))))
          (prefix_none (history_in queue so_far))

  -- and what is known of it is so of them
  known_before : (Q : List Entry → Type 0) → ((es fs : List Entry) → GoOn es fs → Q es → Q fs) →
      IsKnown places lists time Q → Q (entries (untimed so_far))
  known_before Q on k = on (entries (untimed k.front)) (entries (untimed so_far))
      (front_on k.place k.within k.front k.begins k.early) k.so

  -- as that queues took the packets whose notices were received
  heard_before : (ds : List Did) → AreHeard places lists time ds →
      AreTaken ds (entries (untimed so_far))
  heard_before [] h = tt
  heard_before (Received queue number visit ∷ ds) h = (
    known_before (λ es. Has number visit (taken (history queue es)))
        (λ es fs on t. taken_in number visit (history queue es) (history queue fs) (on queue) t)
        h.0,
    heard_before ds h.1,
  )
  heard_before (Sent call ask answer ∷ ds) h = heard_before ds h
  heard_before (Closed ∷ ds) h = heard_before ds h

  -- what is known causes the step
  pub known_causes : (logs : List PortLog) (at : ℕ) (event : Event) →
      IsKnownAs places lists logs time at event →
      IsCausedAs logs (entries (untimed so_far)) at event
  known_causes logs at (Arrive card bypass room) k =
      known_before (HasCome card.number card.visit)
      (λ es fs on c. come_on card.number card.visit es fs on c) k
  known_causes logs at (Ask port call request) k =
      record { sent = k.0; heard = heard_before (take at (log_of port logs)) k.1 }
  known_causes logs at (PortClosed port) k = heard_before (log_of port logs) k
  known_causes logs at (DeviceDown device) k = tt
