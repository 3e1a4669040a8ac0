-- Nothing waits before the ports have opened, and no packet ever waits that wasn't queued: so what
-- a request lets go on comes to a later visit.
use Rattle.std.proofs.Common.{◌≡◌, ◌≤◌, ◌⊎◌, ◌∙◌, ◌+◌, ℕ, List, [], ◌∷◌, ◌++◌, Option, Some, None}
use Rattle.std.proofs.Common.{Bool, true, false, refl, sym, subst, inl, inr, arith}
use Rattle.std.proofs.Common.{zero, suc}
use Rattle.std.specs.Prelude.{◌==◌, map, flat_map, if◌then◌else◌}
use Rattle.std.proofs.lemmas.Bool.{cases_Bool}
use Rattle.std.proofs.lemmas.List.Sums.{sum_by-cons}
use Rattle.std.proofs.lemmas.List.Elements.{filter-append}
use Rattle.packet_entry.specs.declared.packet.Card.{Card}
use Rattle.hook_chain.specs.declared.chain.Decision.{Decision}
use Rattle.nfqa_msgs.specs.declared.request.Request.{Request}
use Rattle.queue_core.specs.State.{Bound}
use Rattle.queue_core.specs.Step.{Way, Gone, Open, Decided, step}
use Rattle.queue_core.specs.Laws.{IsConserving, times, waiting_in, arriving}
use Rattle.queue_core.specs.declared.event.Event.{Event}
use Rattle.queue_core.specs.declared.event.Event.TheVariants.{Ask, PortClosed}
use Rattle.histories.specs.declared.entry.Entry.{Entry}
use Rattle.histories.specs.History.{history, is_of, replay, replay_from}
use Rattle.histories.specs.States.{state_of, entry_in}
use Rattle.histories.specs.Happenings as happening
use Rattle.histories.specs.QueueHistories.{replay_on}
use Rattle.solo_schedule.proofs.LaterVisits.{MayGo}

-- how every step conserves packets
abbrev pub Conserve : Type 0
Conserve = (q : Option Bound) (e : Event) → IsConserving q e

-- no packet may wait, or none that wasn't queued
abbrev pub barred : Bool → ℕ → Bool
barred over visit = if over then visit == 0 else true

abbrev pub test : Bool → ℕ → ℕ → Bool
test over number visit = barred over visit

-- none waits that is barred
pub record NoneWaits (over : Bool) (es : List Entry) : Type 0 where
  pub none : (queue : ℕ) → times (test over) (waiting_in (state_of es queue)) ≡ 0

-- an event that brings none that is barred
abbrev pub Brings : Bool → Event → Type 0
Brings over e = times (test over) (arriving e) ≡ 0

abbrev pub AllBring : Bool → List Entry → Type 0
AllBring over [] = Unit {0}
AllBring over (e ∷ es) = Brings over e.event × AllBring over es

pub bring_append : (over : Bool) (es fs : List Entry) → AllBring over es → AllBring over fs →
    AllBring over (es ++ fs)
bring_append over [] fs one two = two
bring_append over (e ∷ es) fs one two = (one.0, bring_append over es fs one.1 two)

pub bring_all : (over : Bool) (g : ℕ → List Entry) → ((k : ℕ) → AllBring over (g k)) →
    (ks : List ℕ) → AllBring over (flat_map g ks)
bring_all over g each [] = tt
bring_all over g each (k ∷ ks) =
    bring_append over (g k) (flat_map g ks) (each k) (bring_all over g each ks)

bring_history : (over : Bool) (queue : ℕ) (es : List Entry) → AllBring over es →
    AllBring over (history queue es)
bring_history over queue [] are = tt
bring_history over queue (e ∷ es) are = by (is_of queue e) (bring_history over queue es are.1)
  where
    by : (c : Bool) → AllBring over (history queue es) →
        AllBring over (if c then e ∷ history queue es else history queue es)
    by true more = (are.0, more)
    by false more = more

more_free : (over : Bool) (card : Card) (cards : List Card) → barred over card.visit ≡ false →
    times (test over) (card ∷ cards) ≡ 0 + times (test over) cards
more_free over card cards none = sum_by-cons _ card cards ∙ rw none refl

pub one_free : (over : Bool) (card : Card) → barred over card.visit ≡ false →
    times (test over) (card ∷ []) ≡ 0
one_free over card none =
    let n = times (test over) [] in
    let one : times (test over) (card ∷ []) ≡ 0 + n = more_free over card [] none in
    let nothing : n ≡ 0 = refl in
    omega (arith, one, nothing)

module _ (conserve : Conserve) (over : Bool) where
  step_none : (q : Option Bound) (e : Event) → Brings over e →
      times (test over) (waiting_in q) ≡ 0 →
      times (test over) (waiting_in (step q e).state) ≡ 0
  step_none q e brings none = omega (arith, conserve q e (test over), brings, none)

  all_none : (q : Option Bound) (es : List Entry) → AllBring over es →
      times (test over) (waiting_in q) ≡ 0 →
      times (test over) (waiting_in (replay_from q es)) ≡ 0
  all_none q [] are none = none
  all_none q (e ∷ es) are none =
      all_none (step q e.event).state es are.1 (step_none q e.event are.0 none)

  pub none_then : (es fs : List Entry) → AllBring over fs → NoneWaits over es →
      NoneWaits over (es ++ fs)
  none_then es fs are is = record {
    none = λ queue. subst (λ hs. times (test over) (waiting_in (replay hs)) ≡ 0)
        (sym (filter-append (is_of queue) es fs))
        (subst (λ q. times (test over) (waiting_in q) ≡ 0)
        (sym (replay_on None (history queue es) (history queue fs)))
        (all_none (state_of es queue) (history queue fs) (bring_history over queue fs are)
        (is.none queue)));
  }

  -- ---- what a request lets go on

  first_free : (card : Card) (cards : List Card) → times (test over) (card ∷ cards) ≡ 0 →
      (barred over card.visit ≡ false) × (times (test over) cards ≡ 0)
  first_free card cards none = by (cases_Bool (barred over card.visit))
    where
      by : (barred over card.visit ≡ true) ⊎ (barred over card.visit ≡ false) →
          (barred over card.visit ≡ false) × (times (test over) cards ≡ 0)
      by (inl h) =
          let n = times (test over) cards in
          let one : times (test over) (card ∷ cards) ≡ 1 + n =
          sum_by-cons _ card cards ∙ rw h refl in
          absurd (omega (arith, one, none))
      by (inr h) =
          let n = times (test over) cards in
          let one : times (test over) (card ∷ cards) ≡ 0 + n =
          sum_by-cons _ card cards ∙ rw h refl in
          (h, omega (arith, one, none))

  go_free : (left : List (Card × Way)) → times (test over) (map (λ l. l.0) left) ≡ 0 →
      MayGo (λ v. barred over v ≡ false) (happening.all_handed left)
  go_free [] none = tt
  go_free ((card, Gone) ∷ left) none = go_free left (first_free card (map (λ l. l.0) left) none).1
  go_free ((card, Open) ∷ left) none = go_free left (first_free card (map (λ l. l.0) left) none).1
  go_free ((card, Decided d) ∷ left) none =
      let one = first_free card (map (λ l. l.0) left) none in
      (one.0, go_free left one.1)

  pub request_free : (q : Option Bound) (port call : ℕ) (r : Request) →
      times (test over) (waiting_in q) ≡ 0 →
      MayGo (λ v. barred over v ≡ false) (happening.all_handed (step q (Ask port call r)).left)
  request_free q port call r none =
      go_free (step q (Ask port call r)).left
      (omega (arith, conserve q (Ask port call r) (test over), none))

-- nothing is handed out where none may wait
pub none_go : (hs : List (Card × Decision)) → MayGo (λ v. barred false v ≡ false) hs → hs ≡ []
none_go [] may = refl
none_go (h ∷ hs) may = let wrong = may.0 in absurd (cc)

pub all_later : (hs : List (Card × Decision)) → MayGo (λ v. barred true v ≡ false) hs →
    MayGo (λ v. 1 ≤ v) hs
all_later [] may = tt
all_later (h ∷ hs) may = (least h.0.visit may.0, all_later hs may.1)
  where
    least : (v : ℕ) → (v == 0) ≡ false → 1 ≤ v
    least zero wrong = absurd (cc)
    least (suc v) is = omega arith

-- ---- entries of closings and of devices that go down

pub closing_brings : (over : Bool) (port k : ℕ) (o : Option Bound) →
    AllBring over (happening.closing_of port k o)
closing_brings over port k None = tt
closing_brings over port k (Some b) = by (b.port == port)
  where
    by : (c : Bool) → AllBring over (if c then entry_in k (Some b) (PortClosed port) ∷ [] else [])
    by true = (refl, tt)
    by false = tt

pub down_brings : (over : Bool) (device k : ℕ) (o : Option Bound) →
    AllBring over (happening.down_of device k o)
down_brings over device k None = tt
down_brings over device k (Some b) = (refl, tt)

-- what may wait once more may
pub none_less : (over : Bool) (es : List Entry) → Conserve → NoneWaits over es → over ≡ false →
    NoneWaits true es
none_less over es conserve is same = record {
  none = λ queue. fewer (waiting_in (state_of es queue))
      (subst (λ b. times (test b) (waiting_in (state_of es queue)) ≡ 0) same (is.none queue));
}
  where
    fewer : (cards : List Card) → times (test false) cards ≡ 0 → times (test true) cards ≡ 0
    fewer [] none = refl
    fewer (card ∷ cards) none =
        let n = times (test false) cards in
        let one : times (test false) (card ∷ cards) ≡ 1 + n = sum_by-cons _ card cards in
        absurd (omega (arith, one, none))
