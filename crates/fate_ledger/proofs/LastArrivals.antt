-- A packet whose last event is an arrival that was taken waits; any other left in its last event's
-- step.
use Rattle.std.proofs.Common.{◌≡◌, ◌≢◌, ℕ, ◌+◌, ◌<◌, ◌≤◌, List, [], ◌∷◌, ◌++◌, length, map}
use Rattle.std.proofs.Common.{Option, None, Bool, true, false, cond, refl, sym, ap, ◌∙◌}
use Rattle.std.proofs.Common.{arith}
use Rattle.std.proofs.Common.{inl, inr, ◌⊎◌, append_assoc, subst}
use Rattle.std.specs.Prelude.{◌==◌, ◌&&◌, Contains}
use Rattle.std.specs.List.{AllByRecursion}
use Rattle.std.proofs.lemmas.Bool.{cases_Bool, eq-eqb, and_parts, eqb-true, false_from_ne_true}
use Rattle.std.proofs.lemmas.List.Sums.{sum_by-append, sum_by-cons}
use Rattle.std.proofs.lemmas.List.Elements.{recursion_from_All}
use Rattle.packet_entry.specs.declared.packet.Card.{Card}
use Rattle.nfqa_msgs.specs.declared.request.Request.{Request}
use Rattle.nfqa_msgs.specs.declared.request.Request.TheVariants as request
use Rattle.hook_chain.specs.declared.chain.Decision.TheVariants as decision
use Rattle.queue_core.specs.declared.event.Event.{Event}
use Rattle.queue_core.specs.declared.event.Event.TheVariants.{Arrive, Ask, PortClosed, DeviceDown}
use Rattle.queue_core.specs.declared.event.Reply.TheVariants.{Arrived}
use Rattle.queue_core.specs.declared.offers.Outcome.{Outcome}
use Rattle.queue_core.specs.declared.offers.Outcome.TheVariants as outcome
use Rattle.queue_core.specs.State.{Bound}
use Rattle.queue_core.specs.Step.{Way, Gone, Open, Decided, Stepped, step}
use Rattle.queue_core.specs.Laws.{times, waiting_in, arriving, leaving_in, TellsArrival, stays_in}
use Rattle.queue_core.specs.Laws.{way_by}
use Rattle.queue_core.specs.Walk.{walk_arrivals}
use Rattle.queue_core.specs.Laws.{Tells as CountsLeft}
use Rattle.histories.specs.declared.entry.Entry.{Entry}
use Rattle.histories.specs.History.{history, replay, replay_from, is_of, IsStep, AreLegal}
use Rattle.histories.specs.Stays.{arrivals, departures, departures_from}
use Rattle.histories.specs.QueueHistories.{own_first, other_first, own_within, others_last}
use Rattle.histories.specs.QueueHistories.{state_on, state_last, step_at}
use Rattle.fate_ledger.specs.declared.happening.Happening.{Happening}
use Rattle.fate_ledger.specs.declared.fate.Fate.{Fate}
use Rattle.fate_ledger.specs.declared.fate.Fate.TheVariants as fate
use Rattle.fate_ledger.specs.Fates.{happenings_after, happens_after, departing, fate_at_arrival}
use Rattle.fate_ledger.specs.Fates.{fate_by_request, fate_by_verdict, happens}
use Rattle.fate_ledger.specs.Laws.{IsLastEvent, Tells, Leaves, step_after, is_visit}
use Rattle.fate_ledger.specs.Laws.{AreApart, Waits, LeftThere}

-- ---- an arrival's step

-- nothing leaves, or the packet that arrives
abbrev AtMost : Card → Stepped → Type 0
AtMost card s = (s.left ≡ []) ⊎ ((way : Way) × (s.left ≡ (card, way) ∷ []))

at_most : (q : Option Bound) (card : Card) (bypass room : Bool) →
    AtMost card (step q (Arrive card bypass room))
at_most = walk_arrivals (λ card room s. AtMost card s) (record {
  leaves = λ q card room o stays timely. inr (way_by o, refl);
  joins = λ b card room early had. inl refl;
})

-- ---- counts

abbrev pub once : Bool → ℕ
once b = cond b 1 0

pub times_on : (test : ℕ → ℕ → Bool) (xs ys : List Card) →
    times test (xs ++ ys) ≡ times test xs + times test ys
times_on test xs ys = sum_by-append _ xs ys

pub times_first : (test : ℕ → ℕ → Bool) (c : Card) (cs : List Card) →
    times test (c ∷ cs) ≡ once (test c.number c.visit) + times test cs
times_first test c cs = sum_by-cons _ c cs

-- arrivals at one queue are arrivals
pub fewer_at : (test : ℕ → ℕ → Bool) (queue : ℕ) (es : List Entry) →
    times test (arrivals (history queue es)) ≤ times test (arrivals es)
fewer_at test queue [] = omega arith
fewer_at test queue (e ∷ es) =
    elim (is_of queue e) as (λ b.
    times test (arrivals (cond b (e ∷ history queue es) (history queue es)))
    ≤ times test (arrivals (e ∷ es))) [
      | true ↦ omega (
        arith,
        times_on test (arriving e.event) (arrivals (history queue es)),
        times_on test (arriving e.event) (arrivals es),
        fewer_at test queue es,
      )
      | false ↦ omega (
        arith,
        times_on test (arriving e.event) (arrivals es),
        fewer_at test queue es,
      )
    ]

arrivals_on : (es fs : List Entry) → arrivals (es ++ fs) ≡ arrivals es ++ arrivals fs
arrivals_on [] fs = refl
arrivals_on (e ∷ es) fs =
    ap (λ cs. arriving e.event ++ cs) (arrivals_on es fs)
    ∙ sym (append_assoc (arriving e.event) (arrivals es) (arrivals fs))

departures_on : (q : Option Bound) (es fs : List Entry) →
    departures_from q (es ++ fs) ≡ departures_from q es ++ departures_from (replay_from q es) fs
departures_on q [] fs = refl
departures_on q (e ∷ es) fs =
    ap (λ cs. leaving_in (step q e.event) ++ cs) (departures_on (step q e.event).state es fs)
    ∙ sym (append_assoc (leaving_in (step q e.event)) (departures_from (step q e.event).state es)
    (departures_from (replay_from (step q e.event).state es) fs))

-- ---- nothing leaves at this visit any more

module _ (number visit : ℕ) where
  abbrev test : ℕ → ℕ → Bool
  test = is_visit number visit

  abbrev Smaller : Happening → Type 0
  Smaller h = h.card.number ≡ number → h.card.visit < visit

  passes_not : (c : Card) → (c.number ≡ number → c.visit < visit) → test c.number c.visit ≡ false
  passes_not c smaller = false_from_ne_true (test c.number c.visit) (λ is.
      let parts = and_parts (c.number == number) (c.visit == visit) is in
      let less = smaller (eqb-true c.number number parts.0) in
      omega (arith, less, eqb-true c.visit visit parts.1))

  none_departing : (queue at : ℕ) (fate_by : Way → Fate) (left : List (Card × Way)) →
      AllByRecursion Smaller (departing queue at fate_by left) →
      times test (map (λ (l : Card × Way). l.0) left) ≡ 0
  none_departing queue at fate_by [] all = refl
  none_departing queue at fate_by (l ∷ left) all = omega (
    arith,
    times_first test l.0 (map (λ (m : Card × Way). m.0) left),
    ap once (passes_not l.0 all.0),
    none_departing queue at fate_by left all.1,
  )

  none_arriving : (q : Option Bound) (card : Card) (bypass room : Bool) →
      times test (card ∷ []) ≡ 0 →
      times test (leaving_in (step q (Arrive card bypass room))) ≡ 0
  none_arriving q card bypass room none = elim (at_most q card bypass room) [
    | inl nothing ↦ ap (λ (ls : List (Card × Way)). times test (map (λ (l : Card × Way). l.0) ls))
        nothing
    | inr own ↦ ap (λ (ls : List (Card × Way)). times test (map (λ (l : Card × Way). l.0) ls)) own.1
        ∙ none
  ]

  none_leaving : (p : List Entry) (d : Entry) → AllByRecursion Smaller (happens_after p d) →
      times test (arriving d.event) ≡ 0 → times test (leaving_in (step_after p d)) ≡ 0
  none_leaving p d all none = by_event d.event all none
    where
      by_event : (ev : Event) → AllByRecursion Smaller
          (happens d.queue (length (history d.queue p) + 1) ev
          (step (replay (history d.queue p)) ev)) →
          times test (arriving ev) ≡ 0 →
          times test (leaving_in (step (replay (history d.queue p)) ev)) ≡ 0
      by_event (Arrive card bypass room) all none = none_arriving _ card bypass room none
      by_event (Ask port call asked) all none =
          none_departing _ _ (fate_by_request asked) _ all
      by_event (PortClosed port) all none = none_departing _ _ (λ way. fate.PortClosed) _ all
      by_event (DeviceDown device) all none = none_departing _ _ (λ way. fate.DeviceDown) _ all

  all_front : (xs ys : List Happening) → AllByRecursion Smaller (xs ++ ys) →
      AllByRecursion Smaller xs
  all_front [] ys all = tt
  all_front (x ∷ xs) ys all = (all.0, all_front xs ys all.1)

  all_back : (xs ys : List Happening) → AllByRecursion Smaller (xs ++ ys) →
      AllByRecursion Smaller ys
  all_back [] ys all = all
  all_back (x ∷ xs) ys all = all_back xs ys all.1

  none_depart : (queue : ℕ) (p after : List Entry) →
      AllByRecursion Smaller (happenings_after p after) →
      times test (arrivals (history queue after)) ≡ 0 →
      times test (departures_from (replay (history queue p)) (history queue after)) ≡ 0
  none_depart queue p [] all none = refl
  none_depart queue p (d ∷ after) all none = elim (cases_Bool (is_of queue d)) [
    | inl own ↦ (let same : d.queue ≡ queue = eqb-true d.queue queue own in
        let here : history queue (d ∷ after) ≡ d ∷ history queue after =
        own_first queue d after own in
        let came : times test (arriving d.event) + times test (arrivals (history queue after)) ≡ 0 =
        sym (times_on test (arriving d.event) (arrivals (history queue after)))
        ∙ ap (λ gs. times test (arrivals gs)) (sym here) ∙ none in
        let left : times test (leaving_in (step (replay (history queue p)) d.event)) ≡ 0 =
        subst (λ q. times test (leaving_in (step (replay (history q p)) d.event)) ≡ 0) same
        (none_leaving p d (all_front (happens_after p d)
        (happenings_after (p ++ d ∷ []) after) all) (omega (arith, came))) in
        let rest : times test (departures_from (step (replay (history queue p)) d.event).state
        (history queue after)) ≡ 0 =
        subst (λ s. times test (departures_from s (history queue after)) ≡ 0)
        (state_on queue p d own)
        (none_depart queue (p ++ d ∷ []) after (all_back (happens_after p d)
        (happenings_after (p ++ d ∷ []) after) all) (omega (arith, came))) in
        ap (λ gs. times test (departures_from (replay (history queue p)) gs)) here
        ∙ omega (
          arith,
          times_on test (leaving_in (step (replay (history queue p)) d.event))
              (departures_from (step (replay (history queue p)) d.event).state
              (history queue after)),
          left,
          rest,
        ))
    | inr other ↦ (let here : history queue (d ∷ after) ≡ history queue after =
        other_first queue d after other in
        ap (λ gs. times test (departures_from (replay (history queue p)) gs)) here
        ∙ subst (λ gs. times test (departures_from (replay gs) (history queue after)) ≡ 0)
        (others_last p d queue other)
        (none_depart queue (p ++ d ∷ []) after (all_back (happens_after p d)
        (happenings_after (p ++ d ∷ []) after) all)
        (ap (λ gs. times test (arrivals gs)) (sym here) ∙ none)))
  ]

-- ---- fates

-- nothing that left waits
decided_never_waits : (way : Way) → fate_by_verdict way ≡ fate.Waiting → ⊥
decided_never_waits (Decided decision.Accept) is = cc
decided_never_waits (Decided decision.Repeat) is = cc
decided_never_waits (Decided decision.Stop) is = cc
decided_never_waits (Decided (decision.Queue number bypass)) is = cc
decided_never_waits (Decided decision.Drop) is = cc
decided_never_waits Gone is = cc
decided_never_waits Open is = cc

never_waits : (asked : Request) (way : Way) → fate_by_request asked way ≡ fate.Waiting → ⊥
never_waits (request.Config queue command params maxlen flags mask) way is = cc
never_waits (request.Verdict queue head mark payload priority) way is = decided_never_waits way is
never_waits (request.Batch queue head mark priority) way is = decided_never_waits way is

-- what is taken waits, and nothing else does
waits_if_taken : (o : Outcome) → (fate_at_arrival o ≡ fate.Waiting → stays_in o ≡ 1)
    × ((fate_at_arrival o ≡ fate.Waiting → ⊥) → stays_in o ≡ 0)
waits_if_taken (outcome.Taken id) = (λ is. refl, λ no_. absurd (no_ refl))
waits_if_taken outcome.Overflow = (λ is. absurd (cc), λ no_. refl)
waits_if_taken outcome.OverflowOpen = (λ is. absurd (cc), λ no_. refl)
waits_if_taken (outcome.UserFull id) = (λ is. absurd (cc), λ no_. refl)
waits_if_taken (outcome.UserFullOpen id) = (λ is. absurd (cc), λ no_. refl)
waits_if_taken outcome.NoQueue = (λ is. absurd (cc), λ no_. refl)
waits_if_taken outcome.Bypassed = (λ is. absurd (cc), λ no_. refl)
waits_if_taken outcome.CopyNone = (λ is. absurd (cc), λ no_. refl)
waits_if_taken outcome.Loop = (λ is. absurd (cc), λ no_. refl)

none_of : {X : Type 0} (xs : List X) → length xs ≡ 0 → xs ≡ []
none_of [] none = refl
none_of (x ∷ xs) none = absurd (omega (arith, none))

module _ (counts : (q : Option Bound) (ev : Event) →
    CountsLeft ev (step q ev).reply (length (step q ev).left)) where
  -- how many leave in an arrival's step
  counted : (before : List Entry) (e : Entry) (card : Card) (bypass room : Bool) (o : Outcome) →
      e.event ≡ Arrive card bypass room → e.reply ≡ Arrived o →
      IsStep (replay (history e.queue before)) e →
      stays_in o + length (step_after before e).left ≡ 1
  counted before e card bypass room o ev_is reply_is is =
      subst (λ r. TellsArrival r (length (step_after before e).left)) reply_is
      (subst (λ ev. CountsLeft ev e.reply (length (step_after before e).left)) ev_is
      (subst (λ r. CountsLeft e.event r (length (step_after before e).left)) (sym is.reply)
      (counts (replay (history e.queue before)) e.event)))

  module _ (stays : (es : List Entry) (test : ℕ → ℕ → Bool) →
      times test (waiting_in (replay es)) + times test (departures es)
      ≡ times test (arrivals es)) where
    module _ (es : List Entry) (number : ℕ) (h : Happening) (legal : AreLegal es)
        (apart : AreApart es) (last : IsLastEvent es number h) where
      abbrev e : Entry
      e = last.entry

      abbrev mine : ℕ → ℕ → Bool
      mine = is_visit number h.card.visit

      abbrev xs : List Entry
      xs = history e.queue last.before

      abbrev ys : List Entry
      ys = history e.queue last.after

      is : IsStep (replay xs) e
      is = step_at last.before last.after e (subst AreLegal last.split legal)

      whole : history e.queue es ≡ xs ++ e ∷ ys
      whole =
          ap (history e.queue) last.split
          ∙ own_within e.queue last.before last.after e (eq-eqb e.queue e.queue refl)

      few : times mine (arrivals (history e.queue es)) ≤ 1
      few = omega (arith, fewer_at mine e.queue es, apart number h.card.visit)

      arrived : (card : Card) (bypass room : Bool) → e.event ≡ Arrive card bypass room →
          h.card ≡ card → times mine (arrivals (history e.queue es))
          ≡ times mine (arrivals xs) + (1 + times mine (arrivals ys))
      arrived card bypass room ev_is same =
          ap (λ gs. times mine (arrivals gs)) whole
          ∙ ap (times mine) (arrivals_on xs (e ∷ ys))
          ∙ times_on mine (arrivals xs) (arriving e.event ++ arrivals ys)
          ∙ ap (λ n. times mine (arrivals xs) + n)
          (ap (λ ev. times mine (arriving ev ++ arrivals ys)) ev_is
          ∙ times_first mine card (arrivals ys)
          ∙ ap (λ b. once b + times mine (arrivals ys)) own)
        where
          own : mine card.number card.visit ≡ true
          own =
              ap (λ b. b && (card.visit == h.card.visit))
              (eq-eqb card.number number (sym (ap (λ (c : Card). c.number) same)
              ∙ last.number_is))
              ∙ eq-eqb card.visit h.card.visit (sym (ap (λ (c : Card). c.visit) same))

      departed : (step_after last.before e).left ≡ [] → times mine (arrivals xs) ≡ 0 →
          times mine (arrivals ys) ≡ 0 → times mine (departures (history e.queue es)) ≡ 0
      departed nothing first rest =
          ap (λ gs. times mine (departures gs)) whole
          ∙ ap (times mine) (departures_on None xs (e ∷ ys))
          ∙ times_on mine (departures xs) (departures_from (replay xs) (e ∷ ys))
          ∙ omega (
            arith,
            stays xs mine,
            first,
            times_on mine (leaving_in (step (replay xs) e.event))
                (departures_from (step (replay xs) e.event).state ys),
            ap (λ (ls : List (Card × Way)). times mine (map (λ (l : Card × Way). l.0) ls)) nothing,
            later,
          )
        where
          later : times mine (departures_from (step (replay xs) e.event).state ys) ≡ 0
          later =
              subst (λ s. times mine (departures_from s ys) ≡ 0) (state_last last.before e)
              (none_depart number h.card.visit e.queue (last.before ++ e ∷ []) last.after
              (recursion_from_All _ (happenings_after (last.before ++ e ∷ []) last.after)
              last.latest) rest)

      waits_on : (card : Card) (bypass room : Bool) (o : Outcome) →
          e.event ≡ Arrive card bypass room → h.card ≡ card → e.reply ≡ Arrived o →
          stays_in o ≡ 1 → times mine (waiting_in (replay (history e.queue es))) ≡ 1
      waits_on card bypass room o ev_is same reply_is taken_ =
          let all = arrived card bypass room ev_is same in
          let nothing = none_of (step_after last.before e).left
          (omega (arith, counted last.before e card bypass room o ev_is reply_is is, taken_)) in
          omega (
            arith,
            stays (history e.queue es) mine,
            all,
            few,
            departed nothing (omega (arith, all, few)) (omega (arith, all, few)),
          )

      by_event : (ev : Event) → e.event ≡ ev →
          Tells ev e.reply (step_after last.before e) h.card h.fate → h.fate ≡ fate.Waiting →
          times mine (waiting_in (replay (history e.queue es))) ≡ 1
      by_event (Arrive card bypass room) ev_is tells waiting =
          waits_on card bypass room tells.1.0 ev_is tells.0 tells.1.1
          ((waits_if_taken tells.1.0).0 (sym tells.1.2 ∙ waiting))
      by_event (Ask port call asked) ev_is tells waiting =
          absurd (never_waits asked tells.0 (sym tells.2 ∙ waiting))
      by_event (PortClosed port) ev_is tells waiting =
          absurd (let wrong : fate.PortClosed ≡ fate.Waiting = sym tells.2 ∙ waiting in cc)
      by_event (DeviceDown device) ev_is tells waiting =
          absurd (let wrong : fate.DeviceDown ≡ fate.Waiting = sym tells.2 ∙ waiting in cc)

      pub waits : h.fate ≡ fate.Waiting → Waits es h
      waits waiting =
          subst (λ n. times (is_visit n h.card.visit) (waiting_in (replay (history h.queue es)))
          ≡ 1) (sym last.number_is)
          (subst (λ q. times mine (waiting_in (replay (history q es))) ≡ 1)
          (sym last.event.queue) (by_event e.event refl last.event.tells waiting))

  pub leaves_by : (before : List Entry) (e : Entry) (h : Happening) → IsStep (replay
      (history e.queue before)) e → (ev : Event) → e.event ≡ ev →
      Tells ev e.reply (step_after before e) h.card h.fate → (h.fate ≡ fate.Waiting → ⊥) →
      (way : Way) × Leaves (step_after before e) h.card way
  leaves_by before e h is (Ask port call asked) ev_is tells not_ = (tells.0, tells.1)
  leaves_by before e h is (PortClosed port) ev_is tells not_ = (tells.0, tells.1)
  leaves_by before e h is (DeviceDown device) ev_is tells not_ = (tells.0, tells.1)
  leaves_by before e h is (Arrive card bypass room) ev_is tells not_ =
      let none = (waits_if_taken tells.1.0).1 (λ waiting. not_ (tells.1.2 ∙ waiting)) in
      let one = counted before e card bypass room tells.1.0 ev_is tells.1.1 is in
      elim (subst (λ ev. AtMost card (step (replay (history e.queue before)) ev)) (sym ev_is)
      (at_most (replay (history e.queue before)) card bypass room)) [
        | inl nothing ↦ absurd (omega (
          arith,
          none,
          one,
          ap (λ (ls : List (Card × Way)). length ls) nothing,
        ))
        | inr own ↦ (
          own.0,
          subst (λ (ls : List (Card × Way)). Contains ls (h.card, own.0)) (sym own.1)
              (subst (λ (c : Card). Contains {X = Card × Way} ((card, own.0) ∷ []) (c, own.0))
              (sym tells.0)
              (0, omega arith, refl)),
        )
      ]

  pub left_there : (es : List Entry) (number : ℕ) (h : Happening) → AreLegal es →
      IsLastEvent es number h → h.fate ≢ fate.Waiting → LeftThere es h
  left_there es number h legal last not_ =
      let l = leaves_by last.before last.entry h
      (step_at last.before last.after last.entry (subst AreLegal last.split legal))
      last.entry.event refl last.event.tells not_ in record {
        before = last.before;
        entry = last.entry;
        after = last.after;
        split = last.split;
        queue = last.event.queue;
        at = last.event.at;
        way = l.0;
        leaves = l.1;
      }
