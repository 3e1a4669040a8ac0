-- One entry more, and what the queues of a place are then.
use Rattle.std.proofs.Common.{◌≡◌, ◌≤◌, ◌<◌, ℕ, suc, zero, ◌+◌, List, [], ◌∷◌, ◌++◌, Option, None}
use Rattle.std.proofs.Common.{Some, true, false, refl, sym, ap, ◌∙◌, subst, arith, inl, inr}
use Rattle.std.proofs.Common.{length, Bool, cond}
use Rattle.std.proofs.lemmas.List.{length_push, length-map}
use Rattle.std.specs.Prelude.{sum_by, count_by, ◌==◌}
use Rattle.std.specs.List.{range_with_len}
use Rattle.std.specs.BTreeMap.{is_at}
use Rattle.std.specs.Ordering.{nat_cmp}
use Rattle.std.proofs.lemmas.Bool.{cases_Bool, eqb-true, eqb-false, ne_eqb}
use Rattle.std.proofs.lemmas.List.Sums.{sum_by-cons}
use Rattle.packet_entry.specs.declared.packet.Card.{Card}
use Rattle.queue_core.specs.declared.event.Event.{Event}
use Rattle.queue_core.specs.Step.{Way, step}
use Rattle.queue_core.specs.Laws.{IsConserving, arriving, waiting_in, leaving_in, Tells, stays_in}
use Rattle.queue_core.specs.declared.offers.Outcome.{Outcome}
use Rattle.queue_core.specs.declared.offers.Outcome.TheVariants.{Taken}
use Rattle.queue_core.specs.declared.event.Event.TheVariants.{Arrive, Ask, PortClosed, DeviceDown}
use Rattle.queue_core.specs.declared.event.Reply.{Reply}
use Rattle.queue_core.specs.declared.event.Reply.TheVariants.{Arrived, Answer, Flushed}
use Rattle.histories.specs.Numbers.{queue_count}
use Rattle.histories.specs.declared.entry.Entry.{Entry}
use Rattle.place_history.specs.declared.place.held.Held.{Held}
use Rattle.queue_core.specs.State.{Bound}
use Rattle.histories.specs.History.{replay, history}
use Rattle.histories.specs.States.{state_of, step_of, waiting_at, one_if_bound}
use Rattle.histories.specs.States.{every_number, waiting_in_all, taken_by}
use Rattle.place_history.specs.PlaceInvariant.{IsReplayed, IsAhead, held_as, waiting_after}
use Rattle.place_history.specs.Changes.{queue_at}
use Rattle.histories.specs.History.{AreLegal, IsStep}
use Rattle.histories.specs.NumberKeys.{at_own, not_of}
use Rattle.histories.specs.QueueHistories.{others_last, state_last}

-- the law of histories that is used here: legal ones go on by a step of the entry's queue
abbrev pub GoesOn : Type 0
GoesOn = (es : List Entry) (e : Entry) → AreLegal es → IsStep (replay (history e.queue es)) e →
    AreLegal (es ++ e ∷ [])

-- a test as a number
abbrev once : Bool → ℕ
once b = cond b 1 0

-- ---- sums over numbers

same_before : (f g : ℕ → ℕ) (k a n : ℕ) → ((q : ℕ) → (k == q) ≡ false → g q ≡ f q) → k < a →
    sum_by g (range_with_len a n) ≡ sum_by f (range_with_len a n)
same_before f g k a zero others before = refl
same_before f g k a (suc n) others before = omega (
  arith,
  sum_by-cons f a (range_with_len (a + 1) n),
  sum_by-cons g a (range_with_len (a + 1) n),
  others a (ne_eqb k a (λ same. omega (arith, before, same))),
  same_before f g k (a + 1) n others (omega (arith, before)),
)

-- where f changes at one of the numbers, its sum changes as much
sum_changed : (f g : ℕ → ℕ) (k a n : ℕ) → ((q : ℕ) → (k == q) ≡ false → g q ≡ f q) → a ≤ k →
    k < a + n →
    sum_by g (range_with_len a n) + f k ≡ sum_by f (range_with_len a n) + g k
sum_changed f g k a zero others from below = absurd (omega (arith, from, below))
sum_changed f g k a (suc n) others from below = elim (cases_Bool (k == a)) [
  | inl own ↦ omega (
    arith,
    sum_by-cons f a (range_with_len (a + 1) n),
    sum_by-cons g a (range_with_len (a + 1) n),
    ap f (eqb-true k a own),
    ap g (eqb-true k a own),
    same_before f g k (a + 1) n others (omega (arith, eqb-true k a own)),
  )
  | inr other ↦ omega (
    arith,
    sum_by-cons f a (range_with_len (a + 1) n),
    sum_by-cons g a (range_with_len (a + 1) n),
    others a other,
    sum_changed f g k (a + 1) n others (omega (arith, from, eqb-false k a other))
        (omega (arith, below)),
  )
]

-- ---- one entry more

state_other : (es : List Entry) (e : Entry) (queue : ℕ) →
    (e.queue == queue) ≡ false → state_of (es ++ e ∷ []) queue ≡ state_of es queue
state_other es e queue other = ap replay (others_last es e queue other)

-- what is counted of each queue's state changes with one queue
total_below : (count : Option Bound → ℕ) (es : List Entry) (e : Entry) (n : ℕ) →
    e.queue < n →
    sum_by (λ q. count (state_of (es ++ e ∷ []) q)) (range_with_len 0 n)
    + count (state_of es e.queue)
    ≡ sum_by (λ q. count (state_of es q)) (range_with_len 0 n)
    + count (step_of es e.queue e.event).state
total_below count es e n number =
    let changed = sum_changed (λ q. count (state_of es q))
    (λ q. count (state_of (es ++ e ∷ []) q)) e.queue 0 n
    (λ q other. ap count (state_other es e q other)) (omega arith) (omega (arith, number)) in
    omega (arith, changed, ap count (state_last es e))

total_on : (count : Option Bound → ℕ) (es : List Entry) (e : Entry) →
    e.queue < queue_count →
    sum_by (λ q. count (state_of (es ++ e ∷ []) q)) every_number
    + count (state_of es e.queue)
    ≡ sum_by (λ q. count (state_of es q)) every_number
    + count (step_of es e.queue e.event).state
unfolding every_number
total_on count es e number = total_below count es e queue_count number

states_on : (h : Held) (es : List Entry) (e : Entry) (queue : ℕ) →
    queue_at h.queues e.queue ≡ held_as None e.queue (step_of es e.queue e.event).state →
    (is_at (nat_cmp e.queue) queue ≡ false →
    queue_at h.queues queue ≡ held_as None queue (state_of es queue)) →
    queue_at h.queues queue ≡ held_as None queue (state_of (es ++ e ∷ []) queue)
states_on h es e queue own others = elim (cases_Bool (is_at (nat_cmp e.queue) queue)) [
  | inl here ↦ subst
      (λ n. queue_at h.queues n ≡ held_as None n (state_of (es ++ e ∷ []) n))
      (at_own e.queue queue here)
      (own ∙ ap (held_as None e.queue) (sym (state_last es e)))
  | inr other ↦ others other
      ∙ ap (held_as None queue) (sym (state_other es e queue (not_of e.queue queue other)))
]

-- ---- how many wait

all_pass : {X : Type 0} → (xs : List X) → count_by (λ _. true) xs ≡ length xs
all_pass [] = refl
all_pass (x ∷ xs) = omega (arith, all_pass xs, sum_by-cons (λ (y : _). once true) x xs)

-- each packet stays or leaves: so as many wait and left as waited and came
as_many : (q : Option Bound) (e : Event) → IsConserving q e →
    waiting_at (step q e).state + length (step q e).left ≡ waiting_at q + length (arriving e)
as_many q e conserving = omega (
  arith,
  conserving (λ n v. true),
  all_pass (waiting_in (step q e).state),
  all_pass (leaving_in (step q e)),
  all_pass (waiting_in q),
  all_pass (arriving e),
  waiting_cards (step q e).state,
  waiting_cards q,
  length-map (step q e).left (λ (l : Card × Way). l.0),
)
  where
    waiting_cards : (q : Option Bound) → length (waiting_in q) ≡ waiting_at q
    waiting_cards None = refl
    waiting_cards (Some b) = length-map b.waiting (λ (w : ℕ × Card). w.1)

one_stays : (o : Outcome) → stays_in o ≤ 1
one_stays (Taken id) = omega arith
one_stays other = omega arith

-- what a reply tells of the packets that wait is so
pub counted : (q : Option Bound) (e : Event) (old new : ℕ) →
    Tells e (step q e).reply (length (step q e).left) →
    new + waiting_at q ≡ old + waiting_at (step q e).state →
    waiting_at (step q e).state + length (step q e).left ≡ waiting_at q + length (arriving e) →
    (new ≡ waiting_after old (step q e).reply) × (taken_by (step q e).reply ≤ old)
counted q e old new tells changed conserved =
    told e (step q e).reply (length (step q e).left) tells
    (omega (arith, changed, conserved))
  where
    told : (e : Event) (r : Reply) (left : ℕ) → Tells e r left →
        new + left ≡ old + length (arriving e) →
        (new ≡ waiting_after old r) × (taken_by r ≤ old)
    told (Arrive card bypass room) (Arrived outcome) left tells moved =
        (omega (arith, tells, moved), omega arith)
    told (Ask port call request) (Answer errno taken) left tells moved =
        (omega (arith, tells, moved), omega (arith, tells, moved))
    told (PortClosed port) (Flushed taken) left tells moved =
        (omega (arith, tells, moved), omega (arith, tells, moved))
    told (DeviceDown device) (Flushed taken) left tells moved =
        (omega (arith, tells, moved), omega (arith, tells, moved))
    told other wrong left tells moved = absurd (tells)

-- the step's law and its reply's
abbrev pub Lawful : Option Bound → Event → Type 0
Lawful q e = IsConserving q e × Tells e (step q e).reply (length (step q e).left)

-- how many wait once the entry is appended
waits_then : (h : Held) (e : Entry) → IsAhead e h →
    Lawful (state_of h.entries.items e.queue) e.event →
    (waiting_in_all (h.entries.items ++ e ∷ []) ≡ waiting_after h.waiting e.reply)
    × (taken_by e.reply ≤ h.waiting)
waits_then h e ahead lawful =
    let es = h.entries.items in
    let so = counted (state_of es e.queue) e.event (waiting_in_all es)
    (waiting_in_all (es ++ e ∷ [])) lawful.1 (total_on waiting_at es e ahead.number)
    (as_many (state_of es e.queue) e.event lawful.0) in (
      so.0 ∙ ap (waiting_after (waiting_in_all es)) (sym ahead.one.reply)
          ∙ ap (λ n. waiting_after n e.reply) (sym ahead.waiting),
      omega (arith, so.1, ap taken_by ahead.one.reply, ahead.waiting),
    )

-- no more leave than wait
pub enough : (h : Held) (e : Entry) → IsAhead e h →
    Lawful (state_of h.entries.items e.queue) e.event → taken_by e.reply ≤ h.waiting
enough h e ahead lawful = (waits_then h e ahead lawful).1

-- once the entry is appended, the queues are its replay
pub replayed : GoesOn → (h : Held) (e : Entry) (room : ℕ) → IsAhead e h →
    Lawful (state_of h.entries.items e.queue) e.event →
    IsReplayed (record h {
      entries = record { items = h.entries.items ++ e ∷ []; room = room };
      waiting = waiting_after h.waiting e.reply;
    })
replayed go h e room ahead lawful =
    let es = h.entries.items in
    record {
      states = λ queue. rw ahead.no_offer
          (states_on h es e queue ahead.own (ahead.others queue));
      legal = go es e ahead.legal ahead.one;
      offered = rw ahead.no_offer tt;
      waiting = sym (waits_then h e ahead lawful).0;
      bound = omega (arith, total_on one_if_bound es e ahead.number, ahead.bound);
      few = omega (arith, ahead.few, length_push es e, at_most h.waiting e.reply);
    }
  where
    at_most : (n : ℕ) (r : Reply) → waiting_after n r ≤ n + 1
    at_most n (Arrived outcome) = omega (arith, one_stays outcome)
    at_most n (Answer errno taken) = omega arith
    at_most n (Flushed taken) = omega arith

-- ---- no entries

sum_none : (f : ℕ → ℕ) (a n : ℕ) → ((q : ℕ) → f q ≡ 0) → sum_by f (range_with_len a n) ≡ 0
sum_none f a zero none = refl
sum_none f a (suc n) none =
    omega (arith, sum_by-cons f a (range_with_len (a + 1) n), none a, sum_none f (a + 1) n none)

none_in_all : (f : ℕ → ℕ) → ((q : ℕ) → f q ≡ 0) → sum_by f every_number ≡ 0
unfolding every_number
none_in_all f none = sum_none f 0 queue_count none

-- with no queues and no entries, each queue is the replay of nothing
pub replayed_none : (h : Held) → h.queues.entries ≡ [] → h.entries.items ≡ [] → h.waiting ≡ 0 →
    h.offer ≡ None → IsReplayed h
replayed_none h no_queues no_entries no_waiting no_offer = record {
  states = λ queue. rw (no_queues, no_entries) refl;
  legal = λ queue. rw no_entries tt;
  offered = rw no_offer tt;
  waiting = no_waiting ∙ sym (none_in_all (λ q. waiting_at (state_of h.entries.items q))
      (λ q. rw no_entries refl));
  bound = ap length no_queues ∙ sym (none_in_all
      (λ q. one_if_bound (state_of h.entries.items q)) (λ q. rw no_entries refl));
  few = omega (arith, no_waiting);
}
