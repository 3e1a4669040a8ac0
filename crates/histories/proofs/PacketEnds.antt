-- Each packet that entered waits, was lost, or is over.
use Rattle.std.proofs.Common.{◌≡◌, ℕ, ◌+◌, List, [], ◌∷◌, ◌++◌, Option, Some, None}
use Rattle.std.proofs.Common.{Bool, true, false, refl, sym, ap, ◌∙◌, subst, arith, inl, inr}
use Rattle.std.proofs.Common.{append-nil, append_assoc, map}
use Rattle.std.specs.Prelude.{count_by, sum_by, flat_map, ◌==◌, ◌&&◌}
use Rattle.std.specs.List.{AllByRecursion}
use Rattle.std.proofs.lemmas.Bool.{cases_Bool, eqb-true}
use Rattle.std.proofs.lemmas.List.Elements.{recursion_from_All}
use Rattle.std.proofs.lemmas.List.Sums.{sum_by-append, sum_by-cons, sum_by_push}
use Rattle.packet_entry.specs.declared.packet.Card.{Card}
use Rattle.hook_chain.specs.Rules.{RuleTables}
use Rattle.hook_chain.specs.declared.chain.Next.{Next}
use Rattle.hook_chain.specs.declared.chain.Next.TheVariants.{Released, To}
use Rattle.hook_chain.specs.declared.chain.Decision.TheVariants.{Accept}
use Rattle.hook_chain.specs.Route.{onward_of}
use Rattle.queue_core.specs.State.{Bound}
use Rattle.queue_core.specs.Step.{Way, Gone, Open, Decided, step}
use Rattle.queue_core.specs.Laws.{times, waiting_in, arriving, leaving_in}
use Rattle.queue_core.specs.declared.event.Event.{Event}
use Rattle.queue_core.specs.declared.event.Event.TheVariants.{Arrive, Ask, PortClosed, DeviceDown}
use Rattle.histories.specs.declared.histories.Lost.{Lost}
use Rattle.histories.specs.declared.entry.Entry.{Entry}
use Rattle.histories.specs.History.{replay, replay_from, history, is_of}
use Rattle.histories.specs.Stays.{arrivals, departures, departures_from}
use Rattle.histories.specs.Moves.{Move, move_after, moves}
use Rattle.histories.specs.Journeys.{Arrival, asked_by_some, going_on, asks, came, arrival_of}
use Rattle.histories.specs.Journeys.{times_came, AreSound}
use Rattle.histories.specs.Endings.{is_number, is_nothing, is_over, times_over, times_waiting}
use Rattle.histories.specs.Endings.{times_entered, AreQueuesOf}
use Rattle.histories.specs.QueueHistories.{own_within, others_last}
use Rattle.histories.proofs.MoveSoundness.{once, moves_on}

-- ---- sums over queues

sum_both : (f g : ℕ → ℕ) (qs : List ℕ) →
    sum_by (λ q. f q + g q) qs ≡ sum_by f qs + sum_by g qs
sum_both f g [] = refl
sum_both f g (q ∷ qs) = omega (
  arith,
  sum_by-cons (λ q. f q + g q) q qs,
  sum_by-cons f q qs,
  sum_by-cons g q qs,
  sum_both f g qs,
)

sum_same : (f g : ℕ → ℕ) (qs : List ℕ) → ((q : ℕ) → f q ≡ g q) → sum_by f qs ≡ sum_by g qs
sum_same f g [] h = refl
sum_same f g (q ∷ qs) h =
    omega (arith, sum_by-cons f q qs, sum_by-cons g q qs, h q, sum_same f g qs h)

-- a sum in which one queue's part grows
record Grows (f g : ℕ → ℕ) (x k : ℕ) : Type 0 where
  own : (q : ℕ) → (x == q) ≡ true → g q ≡ f q + k
  others : (q : ℕ) → (x == q) ≡ false → g q ≡ f q

grows_none : (f g : ℕ → ℕ) (x k : ℕ) (qs : List ℕ) → Grows f g x k →
    count_by (λ q. x == q) qs ≡ 0 → sum_by g qs ≡ sum_by f qs
grows_none f g x k [] h none = refl
grows_none f g x k (q ∷ qs) h none =
    let split = sum_by-cons (λ q. once (x == q)) q qs in
    elim (cases_Bool (x == q)) [
      | inl e ↦ absurd (omega (arith, none, split, ap once e))
      | inr e ↦ omega (
        arith,
        sum_by-cons f q qs,
        sum_by-cons g q qs,
        h.others q e,
        grows_none f g x k qs h
            (omega (arith, none, split, ap once e)),
      )
    ]

grows_one : (f g : ℕ → ℕ) (x k : ℕ) (qs : List ℕ) → Grows f g x k →
    count_by (λ q. x == q) qs ≡ 1 → sum_by g qs ≡ sum_by f qs + k
grows_one f g x k [] h one = absurd (omega (arith, one))
grows_one f g x k (q ∷ qs) h one =
    let split = sum_by-cons (λ q. once (x == q)) q qs in
    elim (cases_Bool (x == q)) [
      | inl e ↦ omega (
        arith,
        sum_by-cons f q qs,
        sum_by-cons g q qs,
        h.own q e,
        grows_none f g x k qs h
            (omega (arith, one, split, ap once e)),
      )
      | inr e ↦ omega (
        arith,
        sum_by-cons f q qs,
        sum_by-cons g q qs,
        h.others q e,
        grows_one f g x k qs h
            (omega (arith, one, split, ap once e)),
      )
    ]

-- ---- one entry more

arrivals_on : (es : List Entry) (e : Entry) →
    arrivals (es ++ e ∷ []) ≡ arrivals es ++ arriving e.event
arrivals_on [] e = append-nil (arriving e.event)
arrivals_on (d ∷ es) e =
    ap (λ cs. arriving d.event ++ cs) (arrivals_on es e)
    ∙ sym (append_assoc (arriving d.event) (arrivals es) (arriving e.event))

departures_on : (q : Option Bound) (es : List Entry) (e : Entry) →
    departures_from q (es ++ e ∷ [])
    ≡ departures_from q es ++ leaving_in (step (replay_from q es) e.event)
departures_on q [] e = append-nil (leaving_in (step q e.event))
departures_on q (d ∷ es) e =
    ap (λ cs. leaving_in (step q d.event) ++ cs) (departures_on (step q d.event).state es e)
    ∙ sym (append_assoc (leaving_in (step q d.event))
    (departures_from (step q d.event).state es)
    (leaving_in (step (replay_from (step q d.event).state es) e.event)))

-- how often a packet with the number came to a queue, and left it
abbrev came_to : ℕ → List Entry → ℕ → ℕ
came_to n es q = times (is_number n) (arrivals (history q es))

abbrev left_from : ℕ → List Entry → ℕ → ℕ
left_from n es q = times (is_number n) (departures (history q es))

came_grows : (n : ℕ) (es : List Entry) (e : Entry) →
    Grows (came_to n es) (came_to n (es ++ e ∷ [])) e.queue
    (times (is_number n) (arriving e.event))
came_grows n es e = record {
  own = λ q h.
      ap (λ hs. times (is_number n) (arrivals hs)) (own_within q es [] e h)
      ∙ ap (times (is_number n)) (arrivals_on (history q es) e)
      ∙ sum_by-append _ (arrivals (history q es)) (arriving e.event);
  others = λ q h. ap (λ hs. times (is_number n) (arrivals hs)) (others_last es e q h);
}

left_grows : (n : ℕ) (es : List Entry) (e : Entry) →
    Grows (left_from n es) (left_from n (es ++ e ∷ [])) e.queue
    (times (is_number n) (leaving_in (step (replay (history e.queue es)) e.event)))
left_grows n es e = record {
  own = λ q h.
      ap (λ hs. times (is_number n) (departures hs)) (own_within q es [] e h)
      ∙ ap (times (is_number n)) (departures_on None (history q es) e)
      ∙ sum_by-append _ (departures (history q es))
      (leaving_in (step (replay (history q es)) e.event))
      ∙ ap (λ x. left_from n es q
      + times (is_number n) (leaving_in (step (replay (history x es)) e.event)))
      (sym (eqb-true e.queue q h));
  others = λ q h. ap (λ hs. times (is_number n) (departures hs)) (others_last es e q h);
}

-- ---- all entries

abbrev numbered : ℕ → Arrival → Bool
numbered n a = a.card.number == n

-- how often a packet with the number left in a move
abbrev left_in : ℕ → Move → ℕ
left_in n m = count_by (λ (l : Card × Way). l.0.number == n) m.left

times_of_left : (n : ℕ) (ls : List (Card × Way)) →
    times (is_number n) (map (λ (l : Card × Way). l.0) ls)
    ≡ count_by (λ (l : Card × Way). l.0.number == n) ls
times_of_left n [] = refl
times_of_left n (l ∷ ls) = omega (
  arith,
  sum_by-cons (λ (c : Card). once (c.number == n)) l.0 (map (λ (l : Card × Way). l.0) ls),
  sum_by-cons (λ (l : Card × Way). once (l.0.number == n)) l ls,
  times_of_left n ls,
)

times_of_came : (n queue : ℕ) (e : Event) →
    times (is_number n) (arriving e) ≡ count_by (numbered n) (arrival_of queue e)
times_of_came n queue (Arrive card bypass room) = refl
times_of_came n queue (Ask port call request) = refl
times_of_came n queue (PortClosed port) = refl
times_of_came n queue (DeviceDown device) = refl

-- each entry's queue is one of these, once
abbrev Once : List ℕ → Entry → Type 0
Once qs e = count_by (λ q. is_of q e) qs ≡ 1

abbrev LeftAre : ℕ → List ℕ → List Entry → Type 0
LeftAre n qs es = sum_by (left_from n es) qs ≡ sum_by (left_in n) (moves es)

left_are : (n : ℕ) (qs : List ℕ) (before es : List Entry) → AllByRecursion (Once qs) es →
    LeftAre n qs before → LeftAre n qs (before ++ es)
left_are n qs before [] h so_far = subst (LeftAre n qs) (sym (append-nil before)) so_far
left_are n qs before (e ∷ es) h so_far =
    subst (LeftAre n qs) (append_assoc before (e ∷ []) es)
    (left_are n qs (before ++ e ∷ []) es h.1 one_more)
  where
    one_more : LeftAre n qs (before ++ e ∷ [])
    one_more = omega (
      arith,
      so_far,
      grows_one _ _ e.queue _ qs (left_grows n before e) h.0,
      ap (sum_by (left_in n)) (moves_on before e),
      sum_by_push (left_in n) (moves before) (move_after before e),
      times_of_left n (move_after before e).left,
    )

abbrev CameAre : ℕ → List ℕ → List Entry → Type 0
CameAre n qs es = sum_by (came_to n es) qs ≡ times_came (numbered n) (moves es)

came_are : (n : ℕ) (qs : List ℕ) (before es : List Entry) → AllByRecursion (Once qs) es →
    CameAre n qs before → CameAre n qs (before ++ es)
came_are n qs before [] h so_far = subst (CameAre n qs) (sym (append-nil before)) so_far
came_are n qs before (e ∷ es) h so_far =
    subst (CameAre n qs) (append_assoc before (e ∷ []) es)
    (came_are n qs (before ++ e ∷ []) es h.1 one_more)
  where
    one_more : CameAre n qs (before ++ e ∷ [])
    one_more = omega (
      arith,
      so_far,
      grows_one _ _ e.queue _ qs (came_grows n before e) h.0,
      ap (times_came (numbered n)) (moves_on before e),
      sum_by_push (λ m. count_by (numbered n) (came m)) (moves before) (move_after before e),
      times_of_came n e.queue e.event,
    )

nothing : (qs : List ℕ) → sum_by (λ q. 0) qs ≡ 0
nothing [] = refl
nothing (q ∷ qs) = omega (arith, sum_by-cons (λ q. 0) q qs, nothing qs)

-- ---- what leaves goes on, or is over

abbrev Splits : List Arrival → ℕ → Card → Type 0
Splits asked n c = once (c.number == n)
    ≡ count_by (numbered n) asked + once (is_nothing asked && (c.number == n))

by_route : (n visit : ℕ) (c : Card) (route : Option Next) → Splits (asked_by_some route c visit) n c
by_route n visit c None = omega arith
by_route n visit c (Some Released) = omega arith
by_route n visit c (Some (To queue bypass table)) = omega arith

one_each : (tables : RuleTables) (key n : ℕ) (l : Card × Way) →
    Splits (going_on tables key l) n l.0
one_each tables key n (c, Gone) = omega arith
one_each tables key n (c, Open) = by_route n (c.visit + 1) c (onward_of tables key c Accept)
one_each tables key n (c, Decided d) = by_route n (c.visit + 1) c (onward_of tables key c d)

left_split : (tables : RuleTables) (key n : ℕ) (ls : List (Card × Way)) →
    count_by (λ (l : Card × Way). l.0.number == n) ls
    ≡ count_by (numbered n) (flat_map (going_on tables key) ls)
    + count_by (λ (l : Card × Way). is_over tables key l && (l.0.number == n)) ls
left_split tables key n [] = refl
left_split tables key n (l ∷ ls) = omega (
  arith,
  sum_by-cons (λ (l : Card × Way). once (l.0.number == n)) l ls,
  sum_by-cons (λ (l : Card × Way). once (is_over tables key l && (l.0.number == n))) l ls,
  sum_by-append (λ a. once (numbered n a)) (going_on tables key l)
      (flat_map (going_on tables key) ls),
  one_each tables key n l,
  left_split tables key n ls,
)

moves_split : (tables : RuleTables) (key n : ℕ) (ms : List Move) →
    sum_by (left_in n) ms
    ≡ sum_by (λ m. count_by (numbered n) (asks tables key m)) ms + times_over tables key n ms
moves_split tables key n [] = refl
moves_split tables key n (m ∷ ms) = omega (
  arith,
  sum_by-cons (left_in n) m ms,
  sum_by-cons (λ m. count_by (numbered n) (asks tables key m)) m ms,
  sum_by-cons (λ (m : Move). count_by (λ (l : Card × Way).
      is_over tables key l && (l.0.number == n)) m.left) m ms,
  left_split tables key n m.left,
  moves_split tables key n ms,
)

-- ---- each packet

pub once_each : ((es : List Entry) (test : ℕ → ℕ → Bool) →
    times test (waiting_in (replay es)) + times test (departures es) ≡ times test (arrivals es)) →
    (tables : RuleTables) (key number : ℕ) (queues : List ℕ) (entered : List Card)
    (es : List Entry) (lost : List Lost)
    → AreQueuesOf es queues → AreSound tables key entered es lost
    → times_waiting number queues es + count_by (λ (l : Lost). l.number == number) lost
    + times_over tables key number (moves es)
    ≡ times_entered tables key number entered
once_each stay tables key n qs entered es lost queues sound =
    let each = recursion_from_All (Once qs) es queues in
    omega (
      arith,
      sound.met (λ l. l.number == n),
      left_are n qs [] es each (nothing qs),
      came_are n qs [] es each (nothing qs),
      moves_split tables key n (moves es),
      sum_both (λ q. times (is_number n) (waiting_in (replay (history q es)))) (left_from n es) qs,
      sum_same (λ q. times (is_number n) (waiting_in (replay (history q es))) + left_from n es q)
          (came_to n es) qs (λ q. stay (history q es) (is_number n)),
    )
