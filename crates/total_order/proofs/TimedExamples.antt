-- The lists of places written out by hand: which times allow one order.
use Rattle.std.proofs.Common.{◌≡◌, ◌<◌, ◌≤◌, ◌+◌, ℕ, zero, suc, Bool, true, false, List, []}
use Rattle.std.proofs.Common.{◌∷◌, ◌++◌, refl, sym, ap, subst, ◌∙◌, arith, ◌==◌, slice_get, Some}
use Rattle.std.proofs.Common.{inl, length, if◌then◌else◌}
use Rattle.std.proofs.lemmas.Bool.Decides.{nat_tests}
use mathlib.Core.List.{IsPrefix}
use Rattle.queue_core.specs.Numbers.{verdict_drop}
use Rattle.histories.specs.declared.entry.Entry.{Entry}
use Rattle.histories.specs.History.{history}
use Rattle.histories.specs.Places.{place_for}
use Rattle.histories.specs.Stays.{departures}
use Rattle.total_order.specs.Orders.{EachIs, Pairs, untimed}
use Rattle.total_order.specs.Steps.{Step, Has, HasLeft, HasCome, taken}
use Rattle.total_order.specs.TotalOrder.{entries, InLogOrder}
use Rattle.total_order.specs.Places.{IsListAt, IsKnownAs, IsKnown, AreTimedLists}
use Rattle.total_order.specs.Examples.{binds, asks_for_all, waits, decides, to_queue}
use Rattle.total_order.specs.TimedExamples.{step_at, answered_once, one_place, sent_on, two_places}
use Rattle.total_order.proofs.Lists.{pairs_at, each_at}
use Rattle.total_order.proofs.Parts.{prefix_mapped}
use Rattle.total_order.proofs.Persistence.{GoOn, taken_in, come_on}
use Rattle.total_order.proofs.Positions.{history_prefix}
use Rattle.total_order.proofs.Knowledge.{known_first}

-- ---- which of two steps may come before the other

abbrev May : Step × ℕ → Step × ℕ → Type 0
May x y = x.1 ≤ y.1 → InLogOrder x.0 y.0

abbrev Either : Step × ℕ → Step × ℕ → Type 0
Either x y = May x y × May y x

-- of an arrival and any other step, each
free : {A B : Type 0} → (A → Unit {0}) × (B → Unit {0})
free = ((λ l. tt), (λ l. tt))

-- of two requests of one port, the earlier
in_turn : {A B C : Type 0} (at later : ℕ) → at < later → (B → ⊥) →
    (A → C → at < later) × (B → C → later < at)
in_turn at later less never = ((λ l same. less), (λ l same. absurd (never l)))

-- of requests of ports 8 and 7, each
two_logs : {A B : Type 0} (port other at later : ℕ) → port ≡ 8 → other ≡ 7 →
    (A → port ≡ other → at < later) × (B → other ≡ port → later < at)
two_logs port other at later e f =
    ((λ l same. absurd (omega (arith, same))), (λ l same. absurd (omega (arith, same))))

-- ---- what is known is earlier

-- a beginning that is earlier than a step ends before it
ends_before : {E : Type 0} (time : ℕ) (front us vs : List (E × ℕ)) (v : E × ℕ) →
    IsPrefix front (us ++ v ∷ vs) → EachIs (λ x. x.1 < time) front → time ≤ v.1 →
    IsPrefix front us
ends_before time [] us vs v p early late = (us, refl)
ends_before time (x ∷ front) [] vs v p early late =
    let less = early.0 in
    let same : x ≡ v = cc (p.1) in
    let at : x.1 ≡ v.1 = ap (λ y. y.1) same in
    absurd (omega (arith, less, at, late))
ends_before time (x ∷ front) (u ∷ us) vs v p early late =
    let same : x ≡ u = cc (p.1) in
    let q = ends_before time front us vs v (p.0, cc (p.1)) early.1 late in
    (q.0, cc (same, q.1))

-- so what is known is so of what is before the step
known_of : (Q : List Entry → Type 0) → ((es fs : List Entry) → GoOn es fs → Q es → Q fs) →
    (time : ℕ) (front us vs : List (Step × ℕ)) (v : Step × ℕ) → IsPrefix front (us ++ v ∷ vs) →
    EachIs (λ x. x.1 < time) front → time ≤ v.1 → Q (entries (untimed front)) →
    Q (entries (untimed us))
known_of Q on time front us vs v begins early late so =
    on (entries (untimed front)) (entries (untimed us))
    (λ queue. history_prefix queue (untimed front) (untimed us)
    (prefix_mapped (λ x. x.0) front us (ends_before time front us vs v begins early late))) so

-- ---- one place

abbrev bound : Step × ℕ
bound = step_at (binds 7 1 0 4) 0 1

abbrev arrived : Step × ℕ
arrived = step_at (waits 0 1 1 1) 0 2

abbrev answered : ℕ → Step × ℕ
answered time = step_at (asks_for_all 7 2 0) 2 time

module _ (has_place : (queue places : ℕ) → 0 < places → place_for queue places < places)
    (time : ℕ) (late : 2 < time) where
  once_kept : Pairs Either (one_place time 0)
  once_kept = (
    (free, (in_turn 0 2 (omega arith) (λ l. omega (arith, l)), tt)),
    ((free, tt), (tt, tt)),
  )

  once_kept_at : (k j i l : ℕ) (x y : Step × ℕ) → k < 1 → j < 1 →
      slice_get (one_place time k) i ≡ Some x → slice_get (one_place time j) l ≡ Some y →
      ((k ≡ j) × (i ≡ l) → ⊥) → May x y
  once_kept_at zero zero i l x y a b e f ne =
      pairs_at May (one_place time 0) once_kept i l x y e f (λ same. ne (refl, same))
  once_kept_at zero (suc j) i l x y a b e f ne = absurd (omega (arith, b))
  once_kept_at (suc k) j i l x y a b e f ne = absurd (omega (arith, a))

  -- the notice of the arrival before the answer
  heard_once : IsKnown 1 (one_place time) time (λ es. Has 1 1 (taken (history 0 es)))
  heard_once = record {
    place = 0;
    within = omega arith;
    front = bound ∷ arrived ∷ [];
    begins = (answered time ∷ [], refl);
    early = (omega arith, (omega arith, tt));
    so = inl (refl, refl);
  }

  once_known : (k : ℕ) → k < 1 →
      EachIs (λ x. IsKnownAs 1 (one_place time) answered_once.logs x.1 x.0.at x.0.entry.event)
      (one_place time k)
  once_known zero l = (
    (refl, tt),
    (
      known_first 1 (one_place time) 2 1 1 (omega arith) (omega arith),
      ((refl, (heard_once, tt)), tt),
    ),
  )
  once_known (suc k) l = absurd (omega (arith, l))

  only_first : (k : ℕ) → k < 1 → 0 ≡ k
  only_first k l = omega (arith, l)

  pub once : AreTimedLists 1 (one_place time) answered_once
  once = record {
    some = omega arith;
    each = λ k l. subst (λ j. IsListAt 1 j (one_place time j)) (only_first k l) (record {
      here = (refl, (refl, (refl, tt)));
      rise = ((omega arith, (omega arith, tt)), ((omega arith, tt), (tt, tt)));
    });
    same = λ queue. ap (λ k. history queue (entries (untimed (one_place time k))))
        (only_first (place_for queue 1) (has_place queue 1 (omega arith)));
    known = once_known;
    kept = once_kept_at;
  }

-- an answer no later than the arrival
not_heard : (time : ℕ) → time ≤ 2 →
    IsKnown 1 (one_place time) time (λ es. Has 1 1 (taken (history 0 es))) → ⊥
not_heard time soon k = by k.place k.within k.begins
  where
    by : (place : ℕ) → place < 1 → IsPrefix k.front (one_place time place) → ⊥
    by zero l begins = known_of (λ es. Has 1 1 (taken (history 0 es)))
        (λ es fs on h. taken_in 1 1 (history 0 es) (history 0 fs) (on 0) h) time k.front
        (bound ∷ []) (answered time ∷ []) arrived begins k.early soon k.so
    by (suc place) l begins = absurd (omega (arith, l))

pub at_once : (time : ℕ) → time ≤ 2 → AreTimedLists 1 (one_place time) answered_once → ⊥
at_once time soon timed = not_heard time soon (timed.known 0 (omega arith)).1.1.0.1.0

-- ---- two places

abbrev bound_7 : Step × ℕ
bound_7 = step_at (binds 7 1 1 0) 0 1

abbrev arrived_1 : Step × ℕ
arrived_1 = step_at (waits 1 1 1 1) 0 2

abbrev left_1 : Step × ℕ
left_1 = step_at (decides 7 2 1 1 (to_queue 2)) 2 3

abbrev bound_8 : Step × ℕ
bound_8 = step_at (binds 8 1 2 0) 0 1

abbrev arrived_2 : ℕ → Step × ℕ
arrived_2 time = step_at (waits 2 1 2 1) 0 time

abbrev left_2 : ℕ → Step × ℕ
left_2 time = step_at (decides 8 2 2 1 verdict_drop) 2 time

module _ (time : ℕ) (late : 3 < time) where
  first_kept : Pairs Either (two_places time 0)
  first_kept = (
    (free, (in_turn 0 2 (omega arith) (λ l. omega (arith, l)), tt)),
    ((free, tt), (tt, tt)),
  )

  second_kept : Pairs Either (two_places time 1)
  second_kept = (
    (free, (in_turn 0 2 (omega arith) (λ l. omega (arith, l)), tt)),
    ((free, tt), (tt, tt)),
  )

  across_kept : EachIs (λ x. EachIs (λ y. Either x y) (two_places time 1)) (two_places time 0)
  across_kept = (
    (two_logs 8 7 0 0 refl refl, (free, (two_logs 8 7 0 2 refl refl, tt))),
    (
      (free, (free, (free, tt))),
      ((two_logs 8 7 2 0 refl refl, (free, (two_logs 8 7 2 2 refl refl, tt))), tt),
    ),
  )

  -- of one step at the first place and one at the second
  across_at : (i l : ℕ) (x y : Step × ℕ) → slice_get (two_places time 0) i ≡ Some x →
      slice_get (two_places time 1) l ≡ Some y → Either x y
  across_at i l x y e f =
      each_at (λ z. Either x z) (two_places time 1)
      (each_at (λ w. EachIs (λ z. Either w z) (two_places time 1)) (two_places time 0)
      across_kept i x e) l y f

  twice_kept_at : (k j i l : ℕ) (x y : Step × ℕ) → k < 2 → j < 2 →
      slice_get (two_places time k) i ≡ Some x → slice_get (two_places time j) l ≡ Some y →
      ((k ≡ j) × (i ≡ l) → ⊥) → May x y
  twice_kept_at zero zero i l x y a b e f ne =
      pairs_at May (two_places time 0) first_kept i l x y e f (λ same. ne (refl, same))
  twice_kept_at zero (suc zero) i l x y a b e f ne = (across_at i l x y e f).0
  twice_kept_at (suc zero) zero i l x y a b e f ne = (across_at l i y x f e).1
  twice_kept_at (suc zero) (suc zero) i l x y a b e f ne =
      pairs_at May (two_places time 1) second_kept i l x y e f (λ same. ne (refl, same))
  twice_kept_at (suc (suc k)) j i l x y a b e f ne = absurd (omega (arith, a))
  twice_kept_at zero (suc (suc j)) i l x y a b e f ne = absurd (omega (arith, b))
  twice_kept_at (suc zero) (suc (suc j)) i l x y a b e f ne = absurd (omega (arith, b))

  -- the notice of the arrival at queue 1
  heard_7 : IsKnown 2 (two_places time) 3 (λ es. Has 1 1 (taken (history 1 es)))
  heard_7 = record {
    place = 1;
    within = omega arith;
    front = bound_7 ∷ arrived_1 ∷ [];
    begins = (left_1 ∷ [], refl);
    early = (omega arith, (omega arith, tt));
    so = inl (refl, refl);
  }

  -- the packet's leaving there
  left_known : IsKnown 2 (two_places time) time (HasCome 1 2)
  left_known = record {
    place = 1;
    within = omega arith;
    front = bound_7 ∷ arrived_1 ∷ left_1 ∷ [];
    begins = ([], refl);
    early = (omega arith, (omega arith, (omega arith, tt)));
    so = record { queue = 1; left = inl (refl, refl) };
  }

  -- and the notice of its arrival at queue 2
  heard_8 : IsKnown 2 (two_places time) (time + 1) (λ es. Has 1 2 (taken (history 2 es)))
  heard_8 = record {
    place = 0;
    within = omega arith;
    front = bound_8 ∷ arrived_2 time ∷ [];
    begins = (left_2 (time + 1) ∷ [], refl);
    early = (omega arith, (omega arith, tt));
    so = inl (refl, refl);
  }

  twice_known : (k : ℕ) → k < 2 →
      EachIs (λ x. IsKnownAs 2 (two_places time) sent_on.logs x.1 x.0.at x.0.entry.event)
      (two_places time k)
  twice_known zero l = ((refl, tt), (left_known, ((refl, (heard_8, tt)), tt)))
  twice_known (suc zero) l = (
    (refl, tt),
    (
      known_first 2 (two_places time) 2 1 1 (omega arith) (omega arith),
      ((refl, (heard_7, tt)), tt),
    ),
  )
  twice_known (suc (suc k)) l = absurd (omega (arith, l))

  twice_each : (k : ℕ) → k < 2 → IsListAt 2 k (two_places time k)
  twice_each zero l = record {
    here = (refl, (refl, (refl, tt)));
    rise = ((omega arith, (omega arith, tt)), ((omega arith, tt), (tt, tt)));
  }
  twice_each (suc zero) l = record {
    here = (refl, (refl, (refl, tt)));
    rise = ((omega arith, (omega arith, tt)), ((omega arith, tt), (tt, tt)));
  }
  twice_each (suc (suc k)) l = absurd (omega (arith, l))

  -- any other queue has no history
  no_history : (queue k : ℕ) → (1 == queue) ≡ false → (2 == queue) ≡ false →
      history queue (entries (untimed (two_places time k))) ≡ []
  no_history queue zero e f = simp f
  no_history queue (suc zero) e f = simp e
  no_history queue (suc (suc k)) e f = refl

  twice_same : (queue : ℕ) → history queue sent_on.entries
      ≡ history queue (entries (untimed (two_places time (place_for queue 2))))
  twice_same queue = by (1 == queue) (2 == queue) refl refl
    where
      by : (a b : Bool) → (1 == queue) ≡ a → (2 == queue) ≡ b → history queue sent_on.entries
          ≡ history queue (entries (untimed (two_places time (place_for queue 2))))
      by true b e f =
          let at : 1 ≡ queue = grind (arith, nat_tests) in
          subst (λ q. history q sent_on.entries
          ≡ history q (entries (untimed (two_places time (place_for q 2))))) at refl
      by false true e f =
          let at : 2 ≡ queue = grind (arith, nat_tests) in
          subst (λ q. history q sent_on.entries
          ≡ history q (entries (untimed (two_places time (place_for q 2))))) at refl
      by false false e f =
          let none : history queue sent_on.entries ≡ [] = simp (e, f) in
          none ∙ sym (no_history queue (place_for queue 2) e f)

  pub twice : AreTimedLists 2 (two_places time) sent_on
  twice = record {
    some = omega arith;
    each = twice_each;
    same = twice_same;
    known = twice_known;
    kept = twice_kept_at;
  }

-- before the packet leaves none has left, at either place
none_of_8 : (queue : ℕ) → departures (history queue (entries (untimed (bound_8 ∷ [])))) ≡ []
none_of_8 queue = by (2 == queue)
  where
    by : (b : Bool) → departures (if b then bound_8.0.entry ∷ [] else []) ≡ []
    by true = refl
    by false = refl

none_of_7 : (queue : ℕ) →
    departures (history queue (entries (untimed (bound_7 ∷ arrived_1 ∷ [])))) ≡ []
none_of_7 queue = by (1 == queue)
  where
    by : (b : Bool) →
        departures (if b then bound_7.0.entry ∷ (if b then arrived_1.0.entry ∷ [] else [])
        else (if b then arrived_1.0.entry ∷ [] else [])) ≡ []
    by true = refl
    by false = refl

-- a next arrival no later than the leaving
not_come : (time : ℕ) → time ≤ 3 → IsKnown 2 (two_places time) time (HasCome 1 2) → ⊥
not_come time soon k = by k.place k.within k.begins
  where
    before : (us vs : List (Step × ℕ)) (v : Step × ℕ) → IsPrefix k.front (us ++ v ∷ vs) →
        time ≤ v.1 → HasLeft 1 1 (entries (untimed us))
    before us vs v begins late =
        known_of (HasCome 1 2) (come_on 1 2) time k.front us vs v begins k.early late k.so

    by : (place : ℕ) → place < 2 → IsPrefix k.front (two_places time place) → ⊥
    by zero l begins =
        let left = before (bound_8 ∷ []) (left_2 (time + 1) ∷ []) (arrived_2 time) begins
        (omega arith) in
        subst (λ cs. Has 1 1 cs) (none_of_8 left.queue) left.left
    by (suc zero) l begins =
        let left = before (bound_7 ∷ arrived_1 ∷ []) [] left_1 begins soon in
        subst (λ cs. Has 1 1 cs) (none_of_7 left.queue) left.left
    by (suc (suc place)) l begins = absurd (omega (arith, l))

pub too_soon : (time : ℕ) → time ≤ 3 → AreTimedLists 2 (two_places time) sent_on → ⊥
too_soon time soon timed = not_come time soon (timed.known 0 (omega arith)).1.0

-- with one place, the history of queue 1 is not there
pub one_missing : (time : ℕ) → AreTimedLists 1 (two_places time) sent_on → ⊥
one_missing time timed =
    let lost : 3 ≡ 0 = ap length (timed.same 1) in omega (arith, lost)

-- with three places, queue 2 is not at the first
pub one_misplaced : (time : ℕ) → AreTimedLists 3 (two_places time) sent_on → ⊥
one_misplaced time timed =
    let away : 2 ≡ 0 = (timed.each 0 (omega arith)).here.0 in omega (arith, away)
