-- A packet's visit to a queue makes one notice at most.
use Rattle.std.proofs.Common.{◌≡◌, ◌∙◌, ◌≤◌, ◌+◌, ℕ, List, [], ◌∷◌, refl, sym, ap, subst, inl}
use Rattle.std.proofs.Common.{inr, Bool, true, false, Option, Some, None, cond, arith}
use Rattle.std.specs.Prelude.{◌==◌, ◌&&◌}
use Rattle.std.proofs.lemmas.Bool.{and_from, eq-eqb}
use Rattle.std.proofs.lemmas.List.Sums.{sum_by-append}
use Rattle.packet_entry.specs.declared.letter.Letter.{Letter}
use Rattle.packet_entry.specs.declared.packet.Card.{Card}
use Rattle.queue_core.specs.Laws.{arriving, times}
use Rattle.queue_core.specs.State.{Bound}
use Rattle.queue_core.specs.Step.{step}
use Rattle.queue_core.specs.declared.event.Event.{Event}
use Rattle.queue_core.specs.declared.event.Event.TheVariants.{Arrive, Ask, PortClosed, DeviceDown}
use Rattle.queue_core.specs.declared.event.Reply.{Reply}
use Rattle.queue_core.specs.declared.event.Reply.TheVariants.{Arrived, Answer, Flushed}
use Rattle.queue_core.specs.declared.offers.Outcome.TheVariants as outcome
use Rattle.histories.specs.History.{history, is_of}
use Rattle.histories.specs.Letters.{letters_of_event}
use Rattle.histories.specs.Stays.{arrivals}
use Rattle.histories.specs.declared.entry.Entry.{Entry}
use Rattle.port_audit.specs.Makers.{IsAmong}
use Rattle.port_audit.specs.Noticing.{ArriveOnce}
use Rattle.log_audit.specs.Judged.{AllOnlyOnes}
use Rattle.log_audit.specs.Stays.{all_letters, letters_at}
use Rattle.log_audit.proofs.KnownNotices.{among_either, taken_among}

abbrev test_of : ℕ → ℕ → ℕ → ℕ → Bool
test_of number visit n v = (n == number) && (v == visit)

abbrev counted_once : (number visit : ℕ) (card : Card) → Type 0
counted_once number visit card = 1 ≤ times (test_of number visit) (card ∷ [])

counts_itself : (card : Card) → counted_once card.number card.visit card
counts_itself card =
    let own : test_of card.number card.visit card.number card.visit ≡ true =
    and_from (card.number == card.number) (card.visit == card.visit)
    (eq-eqb card.number card.number refl) (eq-eqb card.visit card.visit refl) in
    let is : times (test_of card.number card.visit) (card ∷ []) ≡ 1 =
    ap (λ b. 0 + cond b 1 0) own in
    omega (arith, is)

event_counts : (queue : ℕ) (q : Bound) (event : Event) (reply : Reply) (l : Letter) →
    IsAmong l (letters_of_event queue q event reply) →
    1 ≤ times (test_of l.number l.visit) (arriving event)
event_counts queue q (Arrive card bypass room) (Arrived (outcome.Taken id)) l among = elim among [
  | inl here ↦ subst (λ (m : Letter). counted_once m.number m.visit card) (sym here)
      (counts_itself card)
  | inr there ↦ absurd there
]
event_counts queue q (Arrive card bypass room) (Arrived outcome.Overflow) l among = absurd among
event_counts queue q (Arrive card bypass room) (Arrived outcome.OverflowOpen) l among =
    absurd among
event_counts queue q (Arrive card bypass room) (Arrived (outcome.UserFull id)) l among =
    absurd among
event_counts queue q (Arrive card bypass room) (Arrived (outcome.UserFullOpen id)) l among =
    absurd among
event_counts queue q (Arrive card bypass room) (Arrived outcome.NoQueue) l among = absurd among
event_counts queue q (Arrive card bypass room) (Arrived outcome.Bypassed) l among = absurd among
event_counts queue q (Arrive card bypass room) (Arrived outcome.CopyNone) l among = absurd among
event_counts queue q (Arrive card bypass room) (Arrived outcome.Loop) l among = absurd among
event_counts queue q (Arrive card bypass room) (Answer errno taken) l among = absurd among
event_counts queue q (Arrive card bypass room) (Flushed taken) l among = absurd among
event_counts queue q (Ask port call request) reply l among = absurd among
event_counts queue q (PortClosed port) reply l among = absurd among
event_counts queue q (DeviceDown device) reply l among = absurd among

-- an event makes one notice at most
event_same : (queue : ℕ) (q : Bound) (event : Event) (reply : Reply) (l m : Letter) →
    IsAmong l (letters_of_event queue q event reply) →
    IsAmong m (letters_of_event queue q event reply) → l ≡ m
event_same queue q (Arrive card bypass room) (Arrived (outcome.Taken id)) l m one two = elim one [
  | inl here ↦ elim two [ inl other ↦ here ∙ sym other | inr there ↦ absurd there ]
  | inr there ↦ absurd there
]
event_same queue q (Arrive card bypass room) (Arrived outcome.Overflow) l m one two = absurd one
event_same queue q (Arrive card bypass room) (Arrived outcome.OverflowOpen) l m one two =
    absurd one
event_same queue q (Arrive card bypass room) (Arrived (outcome.UserFull id)) l m one two =
    absurd one
event_same queue q (Arrive card bypass room) (Arrived (outcome.UserFullOpen id)) l m one two =
    absurd one
event_same queue q (Arrive card bypass room) (Arrived outcome.NoQueue) l m one two = absurd one
event_same queue q (Arrive card bypass room) (Arrived outcome.Bypassed) l m one two = absurd one
event_same queue q (Arrive card bypass room) (Arrived outcome.CopyNone) l m one two = absurd one
event_same queue q (Arrive card bypass room) (Arrived outcome.Loop) l m one two = absurd one
event_same queue q (Arrive card bypass room) (Answer errno taken) l m one two = absurd one
event_same queue q (Arrive card bypass room) (Flushed taken) l m one two = absurd one
event_same queue q (Ask port call request) reply l m one two = absurd one
event_same queue q (PortClosed port) reply l m one two = absurd one
event_same queue q (DeviceDown device) reply l m one two = absurd one

at_counts : (q : Option Bound) (e : Entry) (l : Letter) → IsAmong l (letters_at q e) →
    1 ≤ times (test_of l.number l.visit) (arriving e.event)
at_counts None e l among = absurd among
at_counts (Some q) e l among = event_counts e.queue q e.event e.reply l among

at_same : (q : Option Bound) (e : Entry) (l m : Letter) → IsAmong l (letters_at q e) →
    IsAmong m (letters_at q e) → l ≡ m
at_same None e l m one two = absurd one
at_same (Some q) e l m one two = event_same e.queue q e.event e.reply l m one two

both_count : (test : ℕ → ℕ → Bool) (e : Entry) (es : List Entry) →
    times test (arrivals (e ∷ es)) ≡ times test (arriving e.event) + times test (arrivals es)
both_count test e es =
    sum_by-append (λ (c : Card). cond (test c.number c.visit) 1 0) (arriving e.event) (arrivals es)

all_count : (q : Option Bound) (es : List Entry) (l : Letter) → IsAmong l (all_letters q es) →
    1 ≤ times (test_of l.number l.visit) (arrivals es)
all_count q [] l among = absurd among
all_count q (e ∷ es) l among =
    let sum = both_count (test_of l.number l.visit) e es in
    elim (among_either l (letters_at q e) (all_letters (step q e.event).state es) among) [
      | inl here ↦ let more = at_counts q e l here in omega (arith, sum, more)
      | inr there ↦ let more = all_count (step q e.event).state es l there in
          omega (arith, sum, more)
    ]

-- what is counted of one letter is counted of another one of the same visit
as_other : (l m : Letter) (cards : List Card) → m.number ≡ l.number → m.visit ≡ l.visit →
    1 ≤ times (test_of m.number m.visit) cards → 1 ≤ times (test_of l.number l.visit) cards
as_other l m cards numbers visits counts =
    subst (λ v. 1 ≤ times (test_of l.number v) cards) visits
    (subst (λ n. 1 ≤ times (test_of n m.visit) cards) numbers counts)

twice : (here there all : ℕ) → all ≡ here + there → 1 ≤ here → 1 ≤ there → all ≤ 1 → ⊥
twice here there all sum one two once = omega (arith, sum, one, two, once)

one_only : (q : Option Bound) (es : List Entry) (l m : Letter) → m.number ≡ l.number →
    m.visit ≡ l.visit → IsAmong l (all_letters q es) → IsAmong m (all_letters q es) →
    times (test_of l.number l.visit) (arrivals es) ≤ 1 → l ≡ m
one_only q [] l m numbers visits one two once = absurd one
one_only q (e ∷ es) l m numbers visits one two once =
    let test = test_of l.number l.visit in
    let sum = both_count test e es in
    let next = (step q e.event).state in
    elim (among_either l (letters_at q e) (all_letters next es) one) [
      | inl here ↦ elim (among_either m (letters_at q e) (all_letters next es) two) [
        | inl other ↦ at_same q e l m here other
        | inr there ↦ absurd (twice (times test (arriving e.event)) (times test (arrivals es))
            (times test (arrivals (e ∷ es))) sum (at_counts q e l here)
            (as_other l m (arrivals es) numbers visits (all_count next es m there)) once)
      ]
      | inr there ↦ elim (among_either m (letters_at q e) (all_letters next es) two) [
        | inl other ↦ absurd (twice (times test (arriving e.event)) (times test (arrivals es))
            (times test (arrivals (e ∷ es))) sum
            (as_other l m (arriving e.event) numbers visits (at_counts q e m other))
            (all_count next es l there) once)
        | inr more ↦ one_only next es l m numbers visits there more
            (fewer (times test (arriving e.event)) (times test (arrivals es))
            (times test (arrivals (e ∷ es))) sum once)
      ]
    ]
  where
    fewer : (here there all : ℕ) → all ≡ here + there → all ≤ 1 → there ≤ 1
    fewer here there all sum once = omega (arith, sum, once)

-- fewer arrivals stand in a queue's history
in_history : (test : ℕ → ℕ → Bool) (queue : ℕ) (es : List Entry) →
    times test (arrivals (history queue es)) ≤ times test (arrivals es)
in_history test queue [] = omega arith
in_history test queue (e ∷ es) =
    by (is_of queue e) (in_history test queue es)
  where
    by : (b : Bool) → times test (arrivals (history queue es)) ≤ times test (arrivals es) →
        times test (arrivals (cond b (e ∷ history queue es) (history queue es)))
        ≤ times test (arrivals (e ∷ es))
    by true less =
        let one = both_count test e (history queue es) in
        let two = both_count test e es in omega (arith, one, two, less)
    by false less = let two = both_count test e es in omega (arith, two, less)

pub only_ones : (es : List Entry) → ArriveOnce es → AllOnlyOnes es
only_ones es once l taken port m among numbers visits =
    let own = history l.queue es in
    let less = in_history (test_of l.number l.visit) l.queue es in
    let limit = once l.number l.visit in
    one_only None own l m numbers visits (taken_among taken.0 None own l taken.1)
    (taken_among port None own m among) (at_most _ _ less limit)
  where
    at_most : (a b : ℕ) → a ≤ b → b ≤ 1 → a ≤ 1
    at_most a b less limit = omega (arith, less, limit)
