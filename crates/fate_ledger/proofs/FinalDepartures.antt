-- What left last is over: where it went on, its next visit would have arrived.
use Rattle.std.proofs.Common.{◌≡◌, ℕ, zero, suc, ◌+◌, ◌≤◌, ◌<◌, List, [], ◌∷◌, ◌++◌, length}
use Rattle.std.proofs.Common.{Option, Some, None}
use Rattle.std.proofs.Common.{Bool, true, false, cond, refl, sym, ap, ◌∙◌, arith, inl, inr, subst}
use Rattle.std.proofs.Common.{append_assoc, get_or}
use Rattle.std.specs.Prelude.{◌≢◌, ◌==◌, ◌&&◌, ◌||◌, count_by, sum_by, flat_map, All, Contains}
use Rattle.std.specs.List.{AllByRecursion}
use Rattle.std.proofs.lemmas.Bool.{cases_Bool, eq-eqb, eqb-true, ne_eqb}
use Rattle.std.proofs.lemmas.List.{append-nil}
use Rattle.std.proofs.lemmas.List.Elements.{All-head, All-tail}
use Rattle.std.proofs.lemmas.List.Sums.{sum_by-append, sum_by-cons}
use Rattle.packet_entry.specs.declared.packet.Card.{Card}
use Rattle.hook_chain.specs.Rules.{RuleTables}
use Rattle.hook_chain.specs.declared.chain.Next.{Next}
use Rattle.hook_chain.specs.declared.chain.Next.TheVariants.{Released, To}
use Rattle.hook_chain.specs.declared.chain.Decision.TheVariants.{Accept}
use Rattle.hook_chain.specs.Route.{onward_of}
use Rattle.queue_core.specs.declared.event.Event.{Event}
use Rattle.queue_core.specs.declared.event.Event.TheVariants.{Arrive, Ask, PortClosed, DeviceDown}
use Rattle.queue_core.specs.Step.{Way, Gone, Open, Decided}
use Rattle.histories.specs.declared.entry.Entry.{Entry}
use Rattle.histories.specs.declared.histories.Lost.{Lost}
use Rattle.histories.specs.Moves.{Move, moves, moves_after, move_after}
use Rattle.histories.specs.Journeys.{Arrival, asked_by_some, going_on, asks, arrival_of, came}
use Rattle.histories.specs.Journeys.{visit_of, AreSound}
use Rattle.histories.specs.Endings.{is_over, is_nothing}
use Rattle.fate_ledger.specs.declared.happening.Happening.{Happening}
use Rattle.queue_core.specs.declared.event.Reply.{Reply}
use Rattle.queue_core.specs.Step.{Stepped}
use Rattle.fate_ledger.specs.declared.fate.Fate.{Fate}
use Rattle.fate_ledger.specs.Fates.{happens_after, happenings, happenings_after, is_lost}
use Rattle.fate_ledger.specs.Laws.{step_after, IsLastEvent, LeftForGood, Tells}
use Rattle.fate_ledger.specs.declared.fate.Fate.TheVariants as fate
use Rattle.histories.specs.History.{AreLegal}
use Rattle.histories.specs.QueueHistories.{step_at}
use Rattle.fate_ledger.proofs.FateWays.{Laws, leaves_so, is_said}
use Rattle.fate_ledger.proofs.LastArrivals.{once}

module _ (number visit : ℕ) where
  abbrev told : Lost → Bool
  told l = (l.number == number) && (l.visit == visit)

  abbrev meets : Arrival → Bool
  meets a = told (visit_of a)

  -- ---- nothing is lost

  none_lost : (lost : List Lost) → is_lost lost number ≡ false → count_by told lost ≡ 0
  none_lost [] kept = refl
  none_lost (l ∷ ls) kept = by (l.number == number) refl (none_lost ls)
    where
      by : (b : Bool) → (l.number == number) ≡ b →
          (is_lost ls number ≡ false → count_by told ls ≡ 0) → count_by told (l ∷ ls) ≡ 0
      by true same more =
          let wrong : true ≡ false =
          subst (λ b. (b || is_lost ls number) ≡ false) same kept in absurd (cc)
      by false other more =
          let rest : is_lost ls number ≡ false =
          subst (λ b. (b || is_lost ls number) ≡ false) other kept in
          let one : once (told l) ≡ 0 = ap (λ b. once (b && (l.visit == visit))) other in
          omega (arith, sum_by-cons (λ (x : Lost). once (told x)) l ls, one, more rest)

  -- ---- and nothing came

  abbrev pub Low : Event → Type 0
  Low (Arrive card bypass room) = card.number ≡ number → card.visit < visit
  Low (Ask port call request) = Unit {0}
  Low (PortClosed port) = Unit {0}
  Low (DeviceDown device) = Unit {0}

  event_zero : (queue : ℕ) (e : Event) → Low e → count_by meets (arrival_of queue e) ≡ 0
  event_zero queue (Arrive card bypass room) low = by (card.number == number) refl
    where
      by : (b : Bool) → (card.number == number) ≡ b →
          0 + once ((card.number == number) && (card.visit == visit)) ≡ 0
      by true same =
          let below = low (eqb-true card.number number same) in
          let other : (card.visit == visit) ≡ false =
          ne_eqb card.visit visit (λ e. omega (arith, e, below)) in
          ap (λ b. 0 + once (b && (card.visit == visit))) same ∙ ap (λ b. 0 + once b) other
      by false other = ap (λ b. 0 + once (b && (card.visit == visit))) other
  event_zero queue (Ask port call request) low = refl
  event_zero queue (PortClosed port) low = refl
  event_zero queue (DeviceDown device) low = refl

  moves_zero : (p es : List Entry) → AllByRecursion (λ (e : Entry). Low e.event) es →
      sum_by (λ (m : Move). count_by meets (came m)) (moves_after p es) ≡ 0
  moves_zero p [] low = refl
  moves_zero p (e ∷ es) low = omega (
    arith,
    sum_by-cons (λ (m : Move). count_by meets (came m)) (move_after p e)
        (moves_after (p ++ e ∷ []) es),
    event_zero e.queue e.event low.0,
    moves_zero (p ++ e ∷ []) es low.1,
  )

  -- ---- what went on was asked for

  module _ (tables : RuleTables) (key : ℕ) where
    some_goes : (route : Option Next) (card : Card) → card.number ≡ number →
        card.visit + 1 ≡ visit →
        is_nothing (asked_by_some route card (card.visit + 1)) ≡ false →
        count_by meets (asked_by_some route card (card.visit + 1)) ≡ 1
    some_goes None card n v goes = let wrong : true ≡ false = goes in absurd (cc)
    some_goes (Some Released) card n v goes = let wrong : true ≡ false = goes in absurd (cc)
    some_goes (Some (To queue bypass table)) card n v goes =
        let one : (card.number == number) ≡ true = eq-eqb card.number number n in
        let two : (card.visit + 1 == visit) ≡ true = eq-eqb (card.visit + 1) visit v in
        ap (λ b. 0 + once (b && (card.visit + 1 == visit))) one ∙ ap (λ b. 0 + once b) two

    one_goes : (card : Card) (way : Way) → card.number ≡ number → card.visit + 1 ≡ visit →
        is_over tables key (card, way) ≡ false →
        count_by meets (going_on tables key (card, way)) ≡ 1
    one_goes card Gone n v goes = let wrong : true ≡ false = goes in absurd (cc)
    one_goes card Open n v goes = some_goes (onward_of tables key card Accept) card n v goes
    one_goes card (Decided d) n v goes = some_goes (onward_of tables key card d) card n v goes

    in_left : (ls : List (Card × Way)) (l : Card × Way) (k : ℕ) → k < length ls →
        get_or ls k l ≡ l →
        count_by meets (going_on tables key l)
        ≤ count_by meets (flat_map (going_on tables key) ls)
    in_left [] l k within at = omega (arith, within)
    in_left (m ∷ ls) l zero within at = omega (
      arith,
      sum_by-append (λ (a : Arrival). cond (meets a) 1 0) (going_on tables key m)
          (flat_map (going_on tables key) ls),
      ap (λ (x : Card × Way). count_by meets (going_on tables key x)) at,
    )
    in_left (m ∷ ls) l (suc k) within at = omega (
      arith,
      sum_by-append (λ (a : Arrival). cond (meets a) 1 0) (going_on tables key m)
          (flat_map (going_on tables key) ls),
      in_left ls l k (omega (arith, within)) at,
    )

    abbrev asked_in : Move → ℕ
    asked_in m = count_by meets (asks tables key m)

    among : (p before : List Entry) (e : Entry) (after : List Entry) →
        asked_in (move_after (p ++ before) e)
        ≤ sum_by asked_in (moves_after p (before ++ e ∷ after))
    among p [] e after = omega (
      arith,
      sum_by-cons asked_in (move_after p e) (moves_after (p ++ e ∷ []) after),
      ap (λ (gs : List Entry). asked_in (move_after gs e)) (append-nil p),
    )
    among p (d ∷ before) e after = omega (
      arith,
      sum_by-cons asked_in (move_after p d) (moves_after (p ++ d ∷ []) (before ++ e ∷ after)),
      ap (λ (gs : List Entry). asked_in (move_after gs e)) (append_assoc p (d ∷ []) before),
      among (p ++ d ∷ []) before e after,
    )

    pub is_done : (entered : List Card) (es : List Entry) (lost : List Lost) →
        AreSound tables key entered es lost → is_lost lost number ≡ false →
        AllByRecursion (λ (e : Entry). Low e.event) es →
        (before : List Entry) (e : Entry) (after : List Entry) → es ≡ before ++ e ∷ after →
        (card : Card) (way : Way) → Contains (step_after before e).left (card, way) →
        card.number ≡ number → card.visit + 1 ≡ visit →
        is_over tables key (card, way) ≡ true
    is_done entered es lost sound kept low before e after split card way left n v =
        elim (cases_Bool (is_over tables key (card, way))) [
          | inl over ↦ over
          | inr goes ↦
              let met = sound.met told in
              let none = moves_zero [] es low in
              let one = one_goes card way n v goes in
              let here = in_left (step_after before e).left (card, way) left.0 left.1 left.2 in
              let there : asked_in (move_after before e) ≤ sum_by asked_in (moves es) =
              subst (λ gs. asked_in (move_after before e) ≤ sum_by asked_in (moves gs))
              (sym split) (among [] before e after) in
              let gone = none_lost lost kept in
              absurd (omega (arith, met, none, one, here, there, gone))
        ]

  -- ---- from events to entries

  by_recursion : (P : Happening → Type 0) (hs : List Happening) → All P hs → AllByRecursion P hs
  by_recursion P [] all = tt
  by_recursion P (h ∷ hs) all = (All-head P h hs all, by_recursion P hs (All-tail P h hs all))

  back : (P : Happening → Type 0) (gs hs : List Happening) → AllByRecursion P (gs ++ hs) →
      AllByRecursion P hs
  back P [] hs all = all
  back P (g ∷ gs) hs all = back P gs hs all.1

  abbrev pub Below : Happening → Type 0
  Below h = h.card.number ≡ number → h.card.visit < visit

  low_of : (p : List Entry) (queue : ℕ) (event : Event) (reply : Reply) (hs : List Happening) →
      AllByRecursion Below
      (happens_after p (record { queue = queue; event = event; reply = reply }) ++ hs) →
      Low event
  low_of p queue (Arrive card bypass room) reply hs all = all.0
  low_of p queue (Ask port call request) reply hs all = tt
  low_of p queue (PortClosed port) reply hs all = tt
  low_of p queue (DeviceDown device) reply hs all = tt

  pub lows : (p es : List Entry) → AllByRecursion Below (happenings_after p es) →
      AllByRecursion (λ (e : Entry). Low e.event) es
  lows p [] all = tt
  lows p (e ∷ es) all = (
    low_of p e.queue e.event e.reply (happenings_after (p ++ e ∷ []) es) all,
    lows (p ++ e ∷ []) es
        (back Below (happens_after p e) (happenings_after (p ++ e ∷ []) es) all),
  )

  low_here : (event : Event) (reply : Reply) (s : Stepped) (card : Card) (f : Fate) →
      Tells event reply s card f → card.visit + 1 ≡ visit → Low event
  low_here (Arrive arriving bypass room) reply s card f tells v =
      λ n. omega (arith, v, ap (λ (c : Card). c.visit) tells.0)
  low_here (Ask port call request) reply s card f tells v = tt
  low_here (PortClosed port) reply s card f tells v = tt
  low_here (DeviceDown device) reply s card f tells v = tt

weaker : (P Q : Happening → Type 0) → ((h : Happening) → P h → Q h) → (hs : List Happening) →
    AllByRecursion P hs → AllByRecursion Q hs
weaker P Q on [] all = tt
weaker P Q on (h ∷ hs) all = (on h all.0, weaker P Q on hs all.1)

join : (P : Entry → Type 0) (es fs : List Entry) → AllByRecursion P es → AllByRecursion P fs →
    AllByRecursion P (es ++ fs)
join P [] fs all more = more
join P (e ∷ es) fs all more = (all.0, join P es fs all.1 more)

module _ (number : ℕ) (es : List Entry) (h : Happening) (last : IsLastEvent es number h) where
  abbrev LowEntry : Entry → Type 0
  LowEntry e = Low number (h.card.visit + 1) e.event

  all_low : AllByRecursion LowEntry es
  all_low = subst (λ gs. AllByRecursion LowEntry gs) (sym last.split)
      (join LowEntry last.before (last.entry ∷ last.after)
      (lows number (h.card.visit + 1) [] last.before
      (weaker (λ (g : Happening). g.card.number ≡ number → g.card.visit ≤ h.card.visit)
      (Below number (h.card.visit + 1)) (λ g le n. omega (arith, le n)) (happenings last.before)
      (by_recursion number (h.card.visit + 1)
      (λ (g : Happening). g.card.number ≡ number → g.card.visit ≤ h.card.visit)
      (happenings last.before) last.greatest))) (
        low_here number (h.card.visit + 1) last.entry.event last.entry.reply
            (step_after last.before last.entry) h.card h.fate last.event.tells refl,
        lows number (h.card.visit + 1) (last.before ++ last.entry ∷ []) last.after
            (weaker (λ (g : Happening). g.card.number ≡ number → g.card.visit < h.card.visit)
            (Below number (h.card.visit + 1)) (λ g le n. omega (arith, le n))
            (happenings_after (last.before ++ last.entry ∷ []) last.after)
            (by_recursion number (h.card.visit + 1)
            (λ (g : Happening). g.card.number ≡ number → g.card.visit < h.card.visit)
            (happenings_after (last.before ++ last.entry ∷ []) last.after) last.latest)),
      ))

  -- its packet left for good, as its fate says
  pub left_for_good : Laws → (tables : RuleTables) (key : ℕ) (entered : List Card)
      (lost : List Lost) → AreLegal es → AreSound tables key entered es lost →
      is_lost lost number ≡ false → h.fate ≢ fate.Waiting → LeftForGood tables key es h
  left_for_good laws tables key entered lost legal sound kept not_ =
      let is = step_at last.before last.after last.entry (subst AreLegal last.split legal) in
      let left = leaves_so laws last.before last.entry h is last.entry.event refl last.event.tells
      not_ in
      let over = is_done number (h.card.visit + 1) tables key entered es lost sound kept all_low
      last.before last.entry last.after last.split h.card left.way left.leaves last.number_is
      refl in record {
        there = record {
          before = last.before;
          entry = last.entry;
          after = last.after;
          split = last.split;
          queue = last.event.queue;
          at = last.event.at;
          way = left.way;
          leaves = left.leaves;
        };
        over = over;
        said = is_said tables key h.fate h.card left.way left.agrees over;
      }
