-- All packets that wait, as one list, and what they may still cost: each the visits that it has
-- left.
use Rattle.std.proofs.Common.{◌≡◌, ◌≤◌, ◌⊎◌, ◌∙◌, ◌+◌, ◌-◌, ℕ, zero, suc, List, [], ◌∷◌, ◌++◌}
use Rattle.std.proofs.Common.{None, Bool, true, false, refl, sym, ap, subst, inl, inr}
use Rattle.std.proofs.Common.{arith}
use Rattle.std.specs.Prelude.{◌==◌, map, nat_le, nat_lt, if◌then◌else◌}
use Rattle.std.proofs.lemmas.Bool.{cases_Bool, eq-eqb, eqb-true, leb-true, leb-false, ltb-true}
use Rattle.std.proofs.lemmas.Bool.{ltb-false}
use Rattle.std.proofs.lemmas.List.Sums.{sum_by-cons}
use Rattle.std.proofs.lemmas.List.Elements.{filter-append}
use Rattle.packet_entry.specs.declared.packet.Card.{Card}
use Rattle.hook_chain.specs.declared.chain.Decision.{Decision}
use Rattle.queue_core.specs.Step.{Way, Gone, Open, Decided, step}
use Rattle.queue_core.specs.Laws.{times, waiting_in, arriving, leaving_in}
use Rattle.histories.specs.declared.entry.Entry.{Entry}
use Rattle.histories.specs.History.{history, is_of, replay, replay_from}
use Rattle.histories.specs.States.{state_of}
use Rattle.histories.specs.Happenings as happening
use Rattle.histories.specs.QueueHistories.{replay_on}
use Rattle.solo_schedule.proofs.LaterVisits.{MayGo}
use Rattle.solo_schedule.proofs.EmptyStart.{Conserve}

-- ---- counts of packets

-- whether a packet passes a test of its number and visit
abbrev pub one : (ℕ → ℕ → Bool) → Card → ℕ
one test c = if test c.number c.visit then 1 else 0

pub times_cons : (test : ℕ → ℕ → Bool) (card : Card) (cards : List Card) →
    times test (card ∷ cards) ≡ one test card + times test cards
times_cons test card cards = sum_by-cons _ card cards

pub times_append : (test : ℕ → ℕ → Bool) (xs ys : List Card) →
    times test (xs ++ ys) ≡ times test xs + times test ys
times_append test [] ys = omega arith
times_append test (x ∷ xs) ys =
    omega (
      arith,
      times_cons test x (xs ++ ys),
      times_cons test x xs,
      times_append test xs ys,
    )

-- ---- what packets may still cost

abbrev pub up_to : ℕ → ℕ → ℕ → Bool
up_to m number visit = nat_le visit m

-- the visits that packets have left, of so many
pub weight : ℕ → List Card → ℕ
weight zero cards = 0
weight (suc m) cards = times (up_to m) cards + weight m cards

pub weight_none : (m : ℕ) → weight m [] ≡ 0
unfolding weight
weight_none zero = refl
weight_none (suc m) = omega (arith, weight_none m)

one_up_to : (m : ℕ) (card : Card) →
    one (up_to m) card + (m - card.visit) ≡ suc m - card.visit
one_up_to m card = by (cases_Bool (nat_le card.visit m))
  where
    by : (nat_le card.visit m ≡ true) ⊎ (nat_le card.visit m ≡ false) →
        one (up_to m) card + (m - card.visit) ≡ suc m - card.visit
    by (inl h) = let less = leb-true card.visit m h in rw h (omega (arith, less))
    by (inr h) = let more = leb-false card.visit m h in rw h (omega (arith, more))

pub weight_cons : (m : ℕ) (card : Card) (cards : List Card) →
    weight m (card ∷ cards) ≡ (m - card.visit) + weight m cards
unfolding weight
weight_cons zero card cards = omega arith
weight_cons (suc m) card cards =
    omega (
      arith,
      times_cons (up_to m) card cards,
      weight_cons m card cards,
      one_up_to m card,
    )

-- where as many pass each test, as much is left
pub weight_same : (m : ℕ) (a b c d : List Card) →
    ((test : ℕ → ℕ → Bool) → times test a + times test b ≡ times test c + times test d) →
    weight m a + weight m b ≡ weight m c + weight m d
unfolding weight
weight_same zero a b c d same = refl
weight_same (suc m) a b c d same =
    omega (arith, same (up_to m), weight_same m a b c d same)

-- ---- packets by queue

abbrev pub Pool : Type 0
Pool = List (ℕ × Card)

abbrev pub cards : Pool → List Card
cards [] = []
cards (x ∷ xs) = x.1 ∷ cards xs

-- those of this queue
abbrev pub mine : ℕ → Pool → List Card
mine queue [] = []
mine queue (x ∷ xs) = if x.0 == queue then x.1 ∷ mine queue xs else mine queue xs

-- those of the others
abbrev pub others : ℕ → Pool → Pool
others queue [] = []
others queue (x ∷ xs) = if x.0 == queue then others queue xs else x ∷ others queue xs

abbrev pub at_queue : ℕ → List Card → Pool
at_queue queue [] = []
at_queue queue (c ∷ cs) = (queue, c) ∷ at_queue queue cs

cards_at : (queue : ℕ) (cs : List Card) → cards (at_queue queue cs) ≡ cs
cards_at queue [] = refl
cards_at queue (c ∷ cs) = ap (λ ds. c ∷ ds) (cards_at queue cs)

cards_append : (xs ys : Pool) → cards (xs ++ ys) ≡ cards xs ++ cards ys
cards_append [] ys = refl
cards_append (x ∷ xs) ys = ap (λ ds. x.1 ∷ ds) (cards_append xs ys)

mine_append : (queue : ℕ) (xs ys : Pool) → mine queue (xs ++ ys) ≡ mine queue xs ++ mine queue ys
mine_append queue [] ys = refl
mine_append queue (x ∷ xs) ys = by (x.0 == queue) (mine_append queue xs ys)
  where
    by : (c : Bool) → mine queue (xs ++ ys) ≡ mine queue xs ++ mine queue ys →
        (if c then x.1 ∷ mine queue (xs ++ ys) else mine queue (xs ++ ys))
        ≡ (if c then x.1 ∷ mine queue xs else mine queue xs) ++ mine queue ys
    by true so = ap (λ ds. x.1 ∷ ds) so
    by false so = so

mine_own : (queue : ℕ) (cs : List Card) → mine queue (at_queue queue cs) ≡ cs
mine_own queue [] = refl
mine_own queue (c ∷ cs) = rw (eq-eqb queue queue refl) (ap (λ ds. c ∷ ds) (mine_own queue cs))

mine_away : (q queue : ℕ) (cs : List Card) → (q == queue) ≡ false → mine queue (at_queue q cs) ≡ []
mine_away q queue [] away = refl
mine_away q queue (c ∷ cs) away = rw away (mine_away q queue cs away)

mine_none : (queue : ℕ) (xs : Pool) → mine queue (others queue xs) ≡ []
mine_none queue [] = refl
mine_none queue (x ∷ xs) = by (cases_Bool (x.0 == queue)) (mine_none queue xs)
  where
    by : ((x.0 == queue) ≡ true) ⊎ ((x.0 == queue) ≡ false) → mine queue (others queue xs) ≡ [] →
        mine queue (others queue (x ∷ xs)) ≡ []
    by (inl h) so = rw h so
    by (inr h) so = rw (h, h) so

mine_others : (q queue : ℕ) (xs : Pool) → (q == queue) ≡ false →
    mine queue (others q xs) ≡ mine queue xs
mine_others q queue [] away = refl
mine_others q queue (x ∷ xs) away = by (cases_Bool (x.0 == q)) (mine_others q queue xs away)
  where
    by : ((x.0 == q) ≡ true) ⊎ ((x.0 == q) ≡ false) →
        mine queue (others q xs) ≡ mine queue xs →
        mine queue (others q (x ∷ xs)) ≡ mine queue (x ∷ xs)
    by (inl h) so =
        let other : (x.0 == queue) ≡ false =
        ap (λ k. k == queue) (eqb-true x.0 q h) ∙ away in
        rw (h, other) so
    by (inr h) so = rw h (either (x.0 == queue) so)
      where
        either : (c : Bool) → mine queue (others q xs) ≡ mine queue xs →
            (if c then x.1 ∷ mine queue (others q xs) else mine queue (others q xs))
            ≡ (if c then x.1 ∷ mine queue xs else mine queue xs)
        either true so = ap (λ ds. x.1 ∷ ds) so
        either false so = so

times_parts : (test : ℕ → ℕ → Bool) (queue : ℕ) (xs : Pool) →
    times test (cards (others queue xs)) + times test (mine queue xs) ≡ times test (cards xs)
times_parts test queue [] = refl
times_parts test queue (x ∷ xs) = by (x.0 == queue) (times_parts test queue xs)
  where
    by : (c : Bool) →
        times test (cards (others queue xs)) + times test (mine queue xs) ≡ times test (cards xs) →
        times test (cards (if c then others queue xs else x ∷ others queue xs))
        + times test (if c then x.1 ∷ mine queue xs else mine queue xs)
        ≡ times test (x.1 ∷ cards xs)
    by true so =
        omega (arith, times_cons test x.1 (mine queue xs), times_cons test x.1 (cards xs), so)
    by false so =
        omega (
          arith,
          times_cons test x.1 (cards (others queue xs)),
          times_cons test x.1 (cards xs),
          so,
        )

-- ---- one entry more

pub state_push : (es : List Entry) (e : Entry) (queue : ℕ) →
    state_of (es ++ e ∷ []) queue
    ≡ (if e.queue == queue then (step (state_of es e.queue) e.event).state else state_of es queue)
state_push es e queue =
    ap replay (filter-append (is_of queue) es (e ∷ []))
    ∙ replay_on None (history queue es) (history queue (e ∷ []))
    ∙ by (cases_Bool (e.queue == queue))
  where
    by : ((e.queue == queue) ≡ true) ⊎ ((e.queue == queue) ≡ false) →
        replay_from (state_of es queue) (history queue (e ∷ []))
        ≡ (if e.queue == queue then (step (state_of es e.queue) e.event).state
        else state_of es queue)
    by (inl h) =
        rw h (ap (λ k. (step (state_of es k) e.event).state) (sym (eqb-true e.queue queue h)))
    by (inr h) = rw h refl

-- the packets that wait, by queue, in the order of each
abbrev pub Waits : List Entry → Pool → Type 0
Waits es pool = (queue : ℕ) → mine queue pool ≡ waiting_in (state_of es queue)

pub record Pushed (es : List Entry) (e : Entry) (pool : Pool) : Type 0 where
  pub next : Pool
  pub waits : Waits (es ++ e ∷ []) next
  pub same : (test : ℕ → ℕ → Bool) →
      times test (cards next) + times test (leaving_in (step (state_of es e.queue) e.event))
      ≡ times test (cards pool) + times test (arriving e.event)

pub pushed : Conserve → (es : List Entry) (e : Entry) (pool : Pool) → Waits es pool →
    Pushed es e pool
pushed conserve es e pool waits = record {
  next = rest ++ new;
  waits = λ queue.
      mine_append queue rest new ∙ by queue (cases_Bool (e.queue == queue))
      ∙ ap waiting_in (sym (state_push es e queue));
  same = λ test.
      let q = state_of es e.queue in
      omega (
        arith,
        conserve q e.event test,
        times_parts test e.queue pool,
        ap (times test) (waits e.queue),
        ap (times test) (cards_append rest new),
        ap (times test) (cards_at e.queue after),
        times_append test (cards rest) (cards new),
      );
}
  where
    after : List Card
    after = waiting_in (step (state_of es e.queue) e.event).state

    rest : Pool
    rest = others e.queue pool

    new : Pool
    new = at_queue e.queue after

    by : (queue : ℕ) → ((e.queue == queue) ≡ true) ⊎ ((e.queue == queue) ≡ false) →
        mine queue rest ++ mine queue new
        ≡ waiting_in (if e.queue == queue then (step (state_of es e.queue) e.event).state
        else state_of es queue)
    by queue (inl h) =
        rw h (subst (λ k. mine k rest ++ mine k new ≡ after) (eqb-true e.queue queue h)
        (ap (λ ds. ds ++ mine e.queue new) (mine_none e.queue pool) ∙ mine_own e.queue after))
    by queue (inr h) =
        rw h (ap (λ ds. mine queue rest ++ ds) (mine_away e.queue queue after h)
        ∙ nothing_behind (mine queue rest)
        ∙ mine_others e.queue queue pool h ∙ waits queue)
      where
        nothing_behind : (ds : List Card) → ds ++ [] ≡ ds
        nothing_behind [] = refl
        nothing_behind (d ∷ ds) = ap (λ cs. d ∷ cs) (nothing_behind ds)

-- ---- what is in time

-- a visit that no packet waits with
abbrev pub is_late : ℕ → ℕ → Bool
is_late number visit = nat_lt 32 visit

pub in_time : (card : Card) → card.visit ≤ 32 → one is_late card ≡ 0
in_time card early = by (cases_Bool (nat_lt 32 card.visit))
  where
    by : (nat_lt 32 card.visit ≡ true) ⊎ (nat_lt 32 card.visit ≡ false) → one is_late card ≡ 0
    by (inl h) = let late = ltb-true 32 card.visit h in absurd (omega (arith, early, late))
    by (inr h) = rw h refl

early_of : (card : Card) → one is_late card ≡ 0 → card.visit ≤ 32
early_of card none = by (cases_Bool (nat_lt 32 card.visit))
  where
    by : (nat_lt 32 card.visit ≡ true) ⊎ (nat_lt 32 card.visit ≡ false) → card.visit ≤ 32
    by (inl h) =
        let wrong : one is_late card ≡ 1 = rw h refl in
        absurd (omega (arith, none, wrong))
    by (inr h) = ltb-false 32 card.visit h

-- what packets that go on may still cost
abbrev pub carried : List (Card × Decision) → ℕ
carried [] = 0
carried (h ∷ hs) = (32 - h.0.visit) + carried hs

pub go_early : (left : List (Card × Way)) → times is_late (map (λ l. l.0) left) ≡ 0 →
    MayGo (λ v. v ≤ 32) (happening.all_handed left)
go_early [] none = tt
go_early ((card, Gone) ∷ left) none =
    go_early left (omega (arith, none, times_cons is_late card (map (λ l. l.0) left)))
go_early ((card, Open) ∷ left) none =
    go_early left (omega (arith, none, times_cons is_late card (map (λ l. l.0) left)))
go_early ((card, Decided d) ∷ left) none = (
  early_of card (omega (arith, none, times_cons is_late card (map (λ l. l.0) left))),
  go_early left (omega (arith, none, times_cons is_late card (map (λ l. l.0) left))),
)

pub go_cost : (left : List (Card × Way)) →
    carried (happening.all_handed left) ≤ weight 32 (map (λ l. l.0) left)
go_cost [] = omega arith
go_cost ((card, Gone) ∷ left) =
    omega (arith, go_cost left, weight_cons 32 card (map (λ l. l.0) left))
go_cost ((card, Open) ∷ left) =
    omega (arith, go_cost left, weight_cons 32 card (map (λ l. l.0) left))
go_cost ((card, Decided d) ∷ left) =
    omega (arith, go_cost left, weight_cons 32 card (map (λ l. l.0) left))
