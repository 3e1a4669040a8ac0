-- In sound histories no packet arrives twice at one visit.
use Rattle.std.proofs.Common.{◌≡◌, ℕ, zero, suc, ◌+◌, ◌≤◌, List, [], ◌∷◌, ◌++◌, map}
use Rattle.std.proofs.Common.{Option, Some, None, Bool, true, false, cond, refl, sym, ap, ◌∙◌}
use Rattle.std.proofs.Common.{arith, inl, inr, ◌⊎◌, subst, true≢false}
use Rattle.std.specs.Prelude.{◌==◌, ◌&&◌, count_by, sum_by, flat_map}
use Rattle.std.proofs.lemmas.Bool.{cases_Bool, eq-eqb, eqb-true, eqb-false, ne_eqb}
use Rattle.std.proofs.lemmas.List.Sums.{sum_by-append, sum_by-cons}
use Rattle.packet_entry.specs.declared.packet.Card.{Card}
use Rattle.hook_chain.specs.Rules.{RuleTables}
use Rattle.hook_chain.specs.declared.chain.Next.{Next}
use Rattle.hook_chain.specs.declared.chain.Next.TheVariants.{Released, To}
use Rattle.hook_chain.specs.declared.chain.Decision.TheVariants.{Accept}
use Rattle.hook_chain.specs.Route.{next, onward_of}
use Rattle.queue_core.specs.declared.event.Event.{Event}
use Rattle.queue_core.specs.declared.event.Event.TheVariants.{Arrive, Ask, PortClosed, DeviceDown}
use Rattle.queue_core.specs.Step.{Way, Gone, Open, Decided, step}
use Rattle.queue_core.specs.Laws.{times, waiting_in, arriving, leaving_in}
use Rattle.histories.specs.declared.entry.Entry.{Entry}
use Rattle.histories.specs.declared.histories.Lost.{Lost}
use Rattle.histories.specs.History.{history, replay, is_of}
use Rattle.histories.specs.Stays.{arrivals, departures, departures_from}
use Rattle.histories.specs.Moves.{Move, moves, moves_after, move_after}
use Rattle.histories.specs.Journeys.{Arrival, asked_by, asked_by_some, entering, going_on, asks}
use Rattle.histories.specs.Journeys.{arrival_of, came, times_came, AreSound}
use Rattle.histories.specs.QueueHistories.{own_first, other_first, others_last, state_on}
use Rattle.fate_ledger.specs.Laws.{step_after, is_visit, AreApart, DifferInNumber}
use Rattle.fate_ledger.proofs.LastArrivals.{once, times_on, times_first, fewer_at}

-- ---- what leaves at one queue, entry by entry

module _ (test : ℕ → ℕ → Bool) where
  -- how often a packet of the test leaves at a queue in these entries, which stand after those
  abbrev departing_at : ℕ → List Entry → List Entry → ℕ
  departing_at queue p es =
      times test (departures_from (replay (history queue p)) (history queue es))

  abbrev left_in : List Entry → Entry → ℕ
  left_in p e = times test (leaving_in (step_after p e))

  own_departing : (queue : ℕ) (p es : List Entry) (e : Entry) → is_of queue e ≡ true →
      departing_at queue p (e ∷ es) ≡ left_in p e + departing_at queue (p ++ e ∷ []) es
  own_departing queue p es e own =
      ap (λ gs. times test (departures_from (replay (history queue p)) gs))
      (own_first queue e es own)
      ∙ times_on test (leaving_in (step (replay (history queue p)) e.event))
      (departures_from (step (replay (history queue p)) e.event).state (history queue es))
      ∙ ap (λ n. n + times test (departures_from (step (replay (history queue p)) e.event).state
      (history queue es)))
      (ap (λ q. times test (leaving_in (step (replay (history q p)) e.event)))
      (sym (eqb-true e.queue queue own)))
      ∙ ap (λ s. left_in p e + times test (departures_from s (history queue es)))
      (sym (state_on queue p e own))

  other_departing : (queue : ℕ) (p es : List Entry) (e : Entry) → is_of queue e ≡ false →
      departing_at queue p (e ∷ es) ≡ departing_at queue (p ++ e ∷ []) es
  other_departing queue p es e other =
      ap (λ gs. times test (departures_from (replay (history queue p)) gs))
      (other_first queue e es other)
      ∙ ap (λ gs. times test (departures_from (replay gs) (history queue es)))
      (sym (others_last p e queue other))

  -- how often one leaves at all
  abbrev left_by : List Move → ℕ
  left_by ms = sum_by (λ (m : Move). times test (map (λ (l : Card × Way). l.0) m.left)) ms

  abbrev OthersNone : ℕ → List Entry → List Entry → Type 0
  OthersNone queue p es = (q : ℕ) → (queue == q) ≡ false → departing_at q p es ≡ 0

  others_on : (queue : ℕ) (p es : List Entry) (e : Entry) → OthersNone queue p (e ∷ es) →
      OthersNone queue (p ++ e ∷ []) es
  others_on queue p es e none q other = elim (cases_Bool (is_of q e)) [
    | inl own ↦ omega (arith, own_departing q p es e own, none q other)
    | inr not_ ↦ sym (other_departing q p es e not_) ∙ none q other
  ]

  at_one_queue : (queue : ℕ) (p es : List Entry) → OthersNone queue p es →
      left_by (moves_after p es) ≤ departing_at queue p es
  at_one_queue queue p [] none = omega arith
  at_one_queue queue p (e ∷ es) none =
      let rest = at_one_queue queue (p ++ e ∷ []) es (others_on queue p es e none) in
      let first : left_by (moves_after p (e ∷ es))
      ≡ left_in p e + left_by (moves_after (p ++ e ∷ []) es) =
      sum_by-cons (λ (m : Move). times test (map (λ (l : Card × Way). l.0) m.left))
      (move_after p e) (moves_after (p ++ e ∷ []) es) in
      elim (cases_Bool (is_of queue e)) [
        | inl own ↦ omega (arith, rest, first, own_departing queue p es e own)
        | inr other ↦ omega (
          arith,
          rest,
          first,
          other_departing queue p es e other,
          own_departing e.queue p es e (eq-eqb e.queue e.queue refl),
          none e.queue (ne_eqb queue e.queue
              (λ same. let not_ : ¬ (e.queue ≡ queue) = eqb-false e.queue queue other in
              not_ (sym same))),
        )
      ]

  -- ---- the queue of an arrival

  abbrev came_to : ℕ → List Entry → ℕ
  came_to queue es = times test (arrivals (history queue es))

  came_on : (queue : ℕ) (e : Entry) (es : List Entry) →
      came_to queue (e ∷ es) ≡ cond (is_of queue e) (times test (arriving e.event)) 0
      + came_to queue es
  came_on queue e es =
      elim (is_of queue e) as (λ b. times test (arrivals (cond b (e ∷ history queue es)
      (history queue es))) ≡ cond b (times test (arriving e.event)) 0 + came_to queue es) [
        | true ↦ times_on test (arriving e.event) (arrivals (history queue es))
        | false ↦ omega arith
      ]

  some_queue : (es : List Entry) → (times test (arrivals es) ≡ 0)
      ⊎ ((queue : ℕ) × (1 ≤ came_to queue es))
  some_queue [] = inl refl
  some_queue (e ∷ es) = first (some_queue es) (times test (arriving e.event)) refl
    where
      first : (times test (arrivals es) ≡ 0) ⊎ ((queue : ℕ) × (1 ≤ came_to queue es)) →
          (n : ℕ) → times test (arriving e.event) ≡ n →
          (times test (arrivals (e ∷ es)) ≡ 0) ⊎ ((queue : ℕ) × (1 ≤ came_to queue (e ∷ es)))
      first others zero none = elim others [
        | inl nothing ↦ inl (omega (
          arith,
          none,
          nothing,
          times_on test (arriving e.event) (arrivals es),
        ))
        | inr some ↦ inr (some.0, omega (arith, some.1, came_on some.0 e es))
      ]
      first others (suc n) here = inr (
        e.queue,
        omega (
          arith,
          here,
          came_on e.queue e es,
          ap (λ b. cond b (times test (arriving e.event)) 0) (eq-eqb e.queue e.queue refl),
        ),
      )

  -- a number that is taken in one of two cases at most
  once_at_most : (a b : Bool) (n : ℕ) → (a ≡ true → b ≡ false) → cond a n 0 + cond b n 0 ≤ n
  once_at_most true true n apart = absurd (true≢false (apart refl))
  once_at_most true false n apart = omega arith
  once_at_most false true n apart = omega arith
  once_at_most false false n apart = omega arith

  two_queues : (queue q : ℕ) (es : List Entry) → (queue == q) ≡ false →
      came_to queue es + came_to q es ≤ times test (arrivals es)
  two_queues queue q [] other = omega arith
  two_queues queue q (e ∷ es) other =
      let rest = two_queues queue q es other in
      let all = times_on test (arriving e.event) (arrivals es) in
      omega (
        arith,
        rest,
        all,
        came_on queue e es,
        came_on q e es,
        once_at_most (is_of queue e) (is_of q e) (times test (arriving e.event))
            (λ own. ne_eqb e.queue q (λ same.
            let differ : ¬ (queue ≡ q) = eqb-false queue q other in
            differ (sym (eqb-true e.queue queue own) ∙ same))),
      )

  module _ (stays : (es : List Entry) (t : ℕ → ℕ → Bool) →
      times t (waiting_in (replay es)) + times t (departures es) ≡ times t (arrivals es)) where
    -- no more leave than arrive, where at most one arrives
    left_few : (es : List Entry) → times test (arrivals es) ≤ 1 →
        left_by (moves es) ≤ times test (arrivals es)
    left_few es few = elim (some_queue es) [
      | inl none ↦ by_queue 0 (λ q other. omega (
        arith,
        stays (history q es) test,
        fewer_at test q es,
        none,
      ))
      | inr some ↦ by_queue some.0 (λ q other. omega (
        arith,
        stays (history q es) test,
        two_queues some.0 q es other,
        some.1,
        few,
      ))
    ]
      where
        by_queue : (queue : ℕ) → OthersNone queue [] es →
            left_by (moves es) ≤ times test (arrivals es)
        by_queue queue none = omega (
          arith,
          at_one_queue queue [] es none,
          stays (history queue es) test,
          fewer_at test queue es,
        )

-- ---- what is asked for

-- the arrivals of a packet's visit
abbrev at_visit : (ℕ → ℕ → Bool) → Arrival → Bool
at_visit test a = test a.card.number a.card.visit

-- those that came are those of the entries
came_are : (test : ℕ → ℕ → Bool) (p es : List Entry) →
    times_came (at_visit test) (moves_after p es) ≡ times test (arrivals es)
came_are test p [] = refl
came_are test p (e ∷ es) = omega (
  arith,
  sum_by-cons (λ (m : Move). count_by (at_visit test) (came m)) (move_after p e)
      (moves_after (p ++ e ∷ []) es),
  of e.event,
  came_are test (p ++ e ∷ []) es,
  times_on test (arriving e.event) (arrivals es),
)
  where
    of : (ev : Event) → count_by (at_visit test) (arrival_of e.queue ev) ≡ times test (arriving ev)
    of (Arrive card bypass room) = refl
    of (Ask port call asked) = refl
    of (PortClosed port) = refl
    of (DeviceDown device) = refl

-- a route asks for one arrival at most, of this packet at this visit
asked_once : (test : ℕ → ℕ → Bool) (route : Next) (card : Card) (visit : ℕ) →
    count_by (at_visit test) (asked_by route card visit) ≤ once (test card.number visit)
asked_once test Released card visit = omega arith
asked_once test (To queue bypass table) card visit =
    elim (test card.number visit) as (λ b. count_by (λ (a : Bool). a) (b ∷ []) ≤ once b) [
      | true ↦ omega arith
      | false ↦ omega arith
    ]

asked_some_once : (test : ℕ → ℕ → Bool) (route : Option Next) (card : Card) (visit : ℕ) →
    count_by (at_visit test) (asked_by_some route card visit) ≤ once (test card.number visit)
asked_some_once test None card visit = omega arith
asked_some_once test (Some route) card visit = asked_once test route card visit

module _ (tables : RuleTables) (key : ℕ) where
  -- the test of the visit before
  abbrev next_visit : (ℕ → ℕ → Bool) → ℕ → ℕ → Bool
  next_visit test number visit = test number (visit + 1)

  going_once : (test : ℕ → ℕ → Bool) (l : Card × Way) →
      count_by (at_visit test) (going_on tables key l)
      ≤ once (next_visit test l.0.number l.0.visit)
  going_once test (card, Gone) = omega arith
  going_once test (card, Open) =
      asked_some_once test (onward_of tables key card Accept) card (card.visit + 1)
  going_once test (card, Decided decision) =
      asked_some_once test (onward_of tables key card decision) card (card.visit + 1)

  asks_few : (test : ℕ → ℕ → Bool) (left : List (Card × Way)) →
      count_by (at_visit test) (flat_map (going_on tables key) left)
      ≤ times (next_visit test) (map (λ (l : Card × Way). l.0) left)
  asks_few test [] = omega arith
  asks_few test (l ∷ left) = omega (
    arith,
    going_once test l,
    asks_few test left,
    times_first (next_visit test) l.0 (map (λ (m : Card × Way). m.0) left),
    sum_by-append (λ (a : Arrival). once (at_visit test a)) (going_on tables key l)
        (flat_map (going_on tables key) left),
  )

  all_asks_few : (test : ℕ → ℕ → Bool) (ms : List Move) →
      sum_by (λ (m : Move). count_by (at_visit test) (asks tables key m)) ms
      ≤ left_by (next_visit test) ms
  all_asks_few test [] = omega arith
  all_asks_few test (m ∷ ms) = omega (
    arith,
    sum_by-cons (λ (m : Move). count_by (at_visit test) (asks tables key m)) m ms,
    sum_by-cons (λ (m : Move). times (next_visit test) (map (λ (l : Card × Way). l.0) m.left)) m
        ms,
    asks_few test m.left,
    all_asks_few test ms,
  )

  entering_few : (test : ℕ → ℕ → Bool) (entered : List Card) →
      sum_by (λ (c : Card). count_by (at_visit test) (entering tables key c)) entered
      ≤ count_by (λ (c : Card). test c.number 1) entered
  entering_few test [] = omega arith
  entering_few test (c ∷ entered) = omega (
    arith,
    sum_by-cons (λ (c : Card). count_by (at_visit test) (entering tables key c)) c entered,
    sum_by-cons (λ (c : Card). once (test c.number 1)) c entered,
    asked_once test (next tables key c 1) c 1,
    entering_few test entered,
  )

  module _ (stays : (es : List Entry) (t : ℕ → ℕ → Bool) →
      times t (waiting_in (replay es)) + times t (departures es) ≡ times t (arrivals es))
      (entered : List Card) (es : List Entry) (lost : List Lost)
      (differ : DifferInNumber entered) (sound : AreSound tables key entered es lost) where
    abbrev asked_at : (ℕ → ℕ → Bool) → ℕ
    asked_at test = count_by (λ (c : Card). test c.number 1) entered
        + left_by (next_visit test) (moves es)

    few_came : (test : ℕ → ℕ → Bool) → times test (arrivals es) ≤ asked_at test
    few_came test = omega (
      arith,
      sound.asked (at_visit test),
      came_are test [] es,
      entering_few test entered,
      all_asks_few test (moves es),
    )

    none_pass : (cs : List Card) (number visit : ℕ) → (1 == visit) ≡ false →
        count_by (λ (c : Card). is_visit number visit c.number 1) cs ≡ 0
    none_pass [] number visit other = refl
    none_pass (c ∷ cs) number visit other = omega (
      arith,
      sum_by-cons (λ (d : Card). once (is_visit number visit d.number 1)) c cs,
      ap once (and_false (c.number == number) (1 == visit) other),
      none_pass cs number visit other,
    )
      where
        and_false : (a b : Bool) → b ≡ false → (a && b) ≡ false
        and_false true b e = e
        and_false false b e = refl

    some_pass : (cs : List Card) (number : ℕ) →
        count_by (λ (c : Card). is_visit number 1 c.number 1) cs
        ≡ count_by (λ (c : Card). c.number == number) cs
    some_pass [] number = refl
    some_pass (c ∷ cs) number = omega (
      arith,
      sum_by-cons (λ (d : Card). once (is_visit number 1 d.number 1)) c cs,
      sum_by-cons (λ (d : Card). once (d.number == number)) c cs,
      ap once (and_true (c.number == number)),
      some_pass cs number,
    )
      where
        and_true : (a : Bool) → (a && (1 == 1)) ≡ a
        and_true true = refl
        and_true false = refl

    -- the visit before a visit
    earlier : (number visit : ℕ) (ms : List Move) →
        left_by (next_visit (is_visit number (visit + 1))) ms ≡ left_by (is_visit number visit) ms
    earlier number visit ms = same ms
      where
        one : (v : ℕ) → (v + 1 == visit + 1) ≡ (v == visit)
        one v = elim (cases_Bool (v == visit)) [
          | inl e ↦ eq-eqb (v + 1) (visit + 1) (ap (λ n. n + 1) (eqb-true v visit e)) ∙ sym e
          | inr e ↦ ne_eqb (v + 1) (visit + 1) (λ same.
              let not_ : ¬ (v ≡ visit) = eqb-false v visit e in not_ (omega (arith, same)))
              ∙ sym e
        ]

        cards : (cs : List Card) → times (next_visit (is_visit number (visit + 1))) cs
            ≡ times (is_visit number visit) cs
        cards [] = refl
        cards (c ∷ cs) = omega (
          arith,
          times_first (next_visit (is_visit number (visit + 1))) c cs,
          times_first (is_visit number visit) c cs,
          ap (λ b. once ((c.number == number) && b)) (one c.visit),
          cards cs,
        )

        same : (ms : List Move) → left_by (next_visit (is_visit number (visit + 1))) ms
            ≡ left_by (is_visit number visit) ms
        same [] = refl
        same (m ∷ ms) = omega (
          arith,
          sum_by-cons (λ (m : Move). times (next_visit (is_visit number (visit + 1)))
              (map (λ (l : Card × Way). l.0) m.left)) m ms,
          sum_by-cons (λ (m : Move). times (is_visit number visit)
              (map (λ (l : Card × Way). l.0) m.left)) m ms,
          cards (map (λ (l : Card × Way). l.0) m.left),
          same ms,
        )

    -- no visit comes before the first
    none_before : (number : ℕ) (ms : List Move) →
        left_by (next_visit (is_visit number 0)) ms ≡ 0
    none_before number [] = refl
    none_before number (m ∷ ms) = omega (
      arith,
      sum_by-cons (λ (m : Move). times (next_visit (is_visit number 0))
          (map (λ (l : Card × Way). l.0) m.left)) m ms,
      cards (map (λ (l : Card × Way). l.0) m.left),
      none_before number ms,
    )
      where
        and_false : (a b : Bool) → b ≡ false → (a && b) ≡ false
        and_false true b e = e
        and_false false b e = refl

        cards : (cs : List Card) → times (next_visit (is_visit number 0)) cs ≡ 0
        cards [] = refl
        cards (c ∷ cs) = omega (
          arith,
          times_first (next_visit (is_visit number 0)) c cs,
          ap once (and_false (c.number == number) (c.visit + 1 == 0)
              (ne_eqb (c.visit + 1) 0 (λ e. omega (arith, e)))),
          cards cs,
        )

    visit_0 : (number : ℕ) → times (is_visit number 0) (arrivals es) ≡ 0
    visit_0 number = omega (
      arith,
      few_came (is_visit number 0),
      none_pass entered number 0 refl,
      none_before number (moves es),
    )

    visit_1 : (number : ℕ) → times (is_visit number 1) (arrivals es) ≤ 1
    visit_1 number = omega (
      arith,
      few_came (is_visit number 1),
      some_pass entered number,
      differ number,
      earlier number 0 (moves es),
      left_few (is_visit number 0) stays es (omega (arith, visit_0 number)),
      visit_0 number,
    )

    visits_apart : (number visit : ℕ) → times (is_visit number (visit + 1)) (arrivals es) ≤ 1
    visits_apart number zero = visit_1 number
    visits_apart number (suc visit) =
        let before = visits_apart number visit in
        let on : suc visit + 1 ≡ visit + 1 + 1 = omega arith in
        subst (λ v. times (is_visit number v) (arrivals es) ≤ 1) (sym on)
        (omega (
          arith,
          few_came (is_visit number (visit + 1 + 1)),
          none_pass entered number (visit + 1 + 1) (ne_eqb 1 (visit + 1 + 1)
              (λ e. omega (arith, e))),
          earlier number (visit + 1) (moves es),
          left_few (is_visit number (visit + 1)) stays es before,
          before,
        ))

    pub are_apart : AreApart es
    are_apart number zero = omega (arith, visit_0 number)
    are_apart number (suc visit) =
        subst (λ v. times (is_visit number v) (arrivals es) ≤ 1)
        (let on : visit + 1 ≡ suc visit = omega arith in on) (visits_apart number visit)
