-- Where no two arrivals are of one packet at one visit, a notice is known by its packet's visit.
use Rattle.std.proofs.Common.{◌≡◌, ◌≤◌, ◌+◌, ◌⊎◌, ℕ, List, [], ◌∷◌, ◌++◌, Option, Some, None, Bool}
use Rattle.std.proofs.Common.{true, false, cond, refl, sym, ap, ◌∙◌, inl, inr, arith}
use Rattle.std.specs.Prelude.{◌==◌, ◌&&◌, count_by}
use Rattle.std.specs.List.{AllByRecursion}
use Rattle.std.proofs.lemmas.Bool.{eq-eqb, and_from}
use Rattle.std.proofs.lemmas.List.Sums.{sum_by-append, sum_by-cons}
use Rattle.packet_entry.specs.declared.packet.Card.{Card}
use Rattle.packet_entry.specs.declared.letter.Letter.{Letter}
use Rattle.queue_core.specs.State.{Bound}
use Rattle.queue_core.specs.Step.{step}
use Rattle.queue_core.specs.Laws.{arriving}
use Rattle.queue_core.specs.declared.event.Event.{Event}
use Rattle.queue_core.specs.declared.event.Event.TheVariants.{Arrive}
use Rattle.queue_core.specs.declared.event.Reply.{Reply}
use Rattle.queue_core.specs.declared.event.Reply.TheVariants.{Arrived}
use Rattle.queue_core.specs.declared.offers.Outcome.{Outcome}
use Rattle.queue_core.specs.declared.offers.Outcome.TheVariants.{Taken}
use Rattle.histories.specs.declared.entry.Entry.{Entry}
use Rattle.histories.specs.declared.histories.Histories.{Histories}
use Rattle.histories.specs.History.{history, is_of}
use Rattle.histories.specs.Letters.{letters_under, letters_of_event}
use Rattle.histories.specs.Letters.{letters_of_outcome}
use Rattle.histories.specs.Stays.{arrivals}
use Rattle.inspector_script.specs.Scripts.{ScriptValue}
use Rattle.run_parts.specs.Log.{Note}
use Rattle.run_parts.specs.Notices.{heard, letters_from}
use Rattle.port_audit.specs.Makers.{HaveLogs, IsAmong, IsTaken}
use Rattle.port_audit.specs.Noticing.{ArriveOnce, AreOnlyOnes, IsOnlyOne}

-- ---- letters among letters

among_parts : (l : Letter) (xs ys : List Letter) → IsAmong l (xs ++ ys) →
    IsAmong l xs ⊎ IsAmong l ys
among_parts l [] ys among = inr among
among_parts l (x ∷ xs) ys (inl same) = inl (inl same)
among_parts l (x ∷ xs) ys (inr among) = elim (among_parts l xs ys among) [
  | inl here ↦ inl (inr here)
  | inr there ↦ inr there
]

among_chosen : (l : Letter) (b : Bool) (xs : List Letter) → IsAmong l (cond b xs []) →
    IsAmong l xs
among_chosen l true xs among = among
among_chosen l false xs among = absurd among

-- ---- one entry

outcome_letters : (queue : ℕ) (b : Bound) (card : Card) (o : Outcome) (l m : Letter) →
    IsAmong l (letters_of_outcome queue b card o) →
    IsAmong m (letters_of_outcome queue b card o) → l ≡ m
outcome_letters queue b card (Taken id) l m (inl one) (inl two) = one ∙ sym two
outcome_letters queue b card (Taken id) l m (inr one) two = absurd one
outcome_letters queue b card (Taken id) l m (inl one) (inr two) = absurd two
outcome_letters queue b card o l m one two = absurd one

event_letters : (queue : ℕ) (b : Bound) (v : Event) (r : Reply) (l m : Letter) →
    IsAmong l (letters_of_event queue b v r) → IsAmong m (letters_of_event queue b v r) → l ≡ m
event_letters queue b (Arrive card bypass room) (Arrived outcome) l m one two =
    outcome_letters queue b card outcome l m one two
event_letters queue b (Arrive card bypass room) r l m one two = absurd one
event_letters queue b v r l m one two = absurd one

-- whatever port it is for, an entry has one notice
entry_letters : (p o : ℕ) (q : Option Bound) (e : Entry) (l m : Letter) →
    IsAmong l (letters_under p q e) → IsAmong m (letters_under o q e) → l ≡ m
entry_letters p o None e l m one two = absurd one
entry_letters p o (Some b) e l m one two =
    event_letters e.queue b e.event e.reply l m
    (among_chosen l (p == b.port) (letters_of_event e.queue b e.event e.reply) one)
    (among_chosen m (o == b.port) (letters_of_event e.queue b e.event e.reply) two)

module _ (number visit : ℕ) where
  abbrev is_this : Card → Bool
  is_this c = (c.number == number) && (c.visit == visit)

  abbrev seen : List Entry → ℕ
  seen es = count_by is_this (arrivals es)

  abbrev weight : Card → ℕ
  weight c = cond (is_this c) 1 0

  seen_on : (e : Entry) (es : List Entry) →
      seen (e ∷ es) ≡ count_by is_this (arriving e.event) + seen es
  seen_on e es = sum_by-append weight (arriving e.event) (arrivals es)

  this_card : (c : Card) → c.number ≡ number → c.visit ≡ visit →
      count_by is_this (c ∷ []) ≡ 1
  this_card c one two =
      let is : is_this c ≡ true = and_from (c.number == number) (c.visit == visit)
      (eq-eqb c.number number one) (eq-eqb c.visit visit two) in
      let is_one : weight c ≡ 1 = ap (λ b. cond {A = ℕ} b 1 0) is in
      sum_by-cons weight c [] ∙ ap (λ n. n + 0) is_one

  outcome_seen : (queue : ℕ) (b : Bound) (card : Card) (o : Outcome) (l : Letter) →
      IsAmong l (letters_of_outcome queue b card o) → l.number ≡ number → l.visit ≡ visit →
      count_by is_this (card ∷ []) ≡ 1
  outcome_seen queue b card (Taken id) l (inl same) one two =
      this_card card (sym (ap (λ (m : Letter). m.number) same) ∙ one)
      (sym (ap (λ (m : Letter). m.visit) same) ∙ two)
  outcome_seen queue b card (Taken id) l (inr none) one two = absurd none
  outcome_seen queue b card o l among one two = absurd among

  event_seen : (queue : ℕ) (b : Bound) (v : Event) (r : Reply) (l : Letter) →
      IsAmong l (letters_of_event queue b v r) → l.number ≡ number → l.visit ≡ visit →
      count_by is_this (arriving v) ≡ 1
  event_seen queue b (Arrive card bypass room) (Arrived outcome) l among one two =
      outcome_seen queue b card outcome l among one two
  event_seen queue b (Arrive card bypass room) r l among one two = absurd among
  event_seen queue b v r l among one two = absurd among

  entry_seen : (p : ℕ) (q : Option Bound) (e : Entry) (l : Letter) →
      IsAmong l (letters_under p q e) → l.number ≡ number → l.visit ≡ visit →
      count_by is_this (arriving e.event) ≡ 1
  entry_seen p None e l among one two = absurd among
  entry_seen p (Some b) e l among one two =
      event_seen e.queue b e.event e.reply l
      (among_chosen l (p == b.port) (letters_of_event e.queue b e.event e.reply) among) one two

  -- ---- entries

  some_seen : (p : ℕ) (q : Option Bound) (es : List Entry) (l : Letter) →
      IsAmong l (letters_from p q es) → l.number ≡ number → l.visit ≡ visit → 1 ≤ seen es
  some_seen p q [] l among one two = absurd among
  some_seen p q (e ∷ es) l among one two =
      elim (among_parts l (letters_under p q e) (letters_from p (step q e.event).state es) among) [
        | inl here ↦ omega (arith, seen_on e es, entry_seen p q e l here one two)
        | inr there ↦ omega (
          arith,
          seen_on e es,
          some_seen p (step q e.event).state es l there one two,
        )
      ]

  one_letter : (p o : ℕ) (q : Option Bound) (es : List Entry) (l m : Letter) →
      IsAmong l (letters_from p q es) → IsAmong m (letters_from o q es) →
      l.number ≡ number → l.visit ≡ visit → m.number ≡ number → m.visit ≡ visit →
      seen es ≤ 1 → l ≡ m
  one_letter p o q [] l m in_one in_two ln lv mn mv once = absurd in_one
  one_letter p o q (e ∷ es) l m in_one in_two ln lv mn mv once =
      let after = (step q e.event).state in
      elim (among_parts l (letters_under p q e) (letters_from p after es) in_one) [
        | inl here ↦ elim (among_parts m (letters_under o q e) (letters_from o after es) in_two) [
          | inl same ↦ entry_letters p o q e l m here same
          | inr there ↦ absurd (omega (
            arith,
            once,
            seen_on e es,
            entry_seen p q e l here ln lv,
            some_seen o after es m there mn mv,
          ))
        ]
        | inr there ↦ elim (among_parts m (letters_under o q e) (letters_from o after es) in_two) [
          | inl here ↦ absurd (omega (
            arith,
            once,
            seen_on e es,
            entry_seen o q e m here mn mv,
            some_seen p after es l there ln lv,
          ))
          | inr same ↦ one_letter p o after es l m there same ln lv mn mv
              (omega (arith, once, seen_on e es))
        ]
      ]

  seen_history : (queue : ℕ) (es : List Entry) → seen (history queue es) ≤ seen es
  seen_history queue [] = omega arith
  seen_history queue (e ∷ es) = by (is_of queue e) (seen_history queue es)
    where
      by : (b : Bool) → seen (history queue es) ≤ seen es →
          seen (cond b (e ∷ history queue es) (history queue es)) ≤ seen (e ∷ es)
      by true others =
          omega (arith, seen_on e (history queue es), seen_on e es, others)
      by false others = omega (arith, seen_on e es, others)

-- ---- all that was heard

each_only : (es : List Entry) (ls : List Letter) → ArriveOnce es →
    AllByRecursion (IsTaken es) ls → AllByRecursion (IsOnlyOne es) ls
each_only es [] once all = tt
each_only es (l ∷ ls) once all = (
  λ port m among number visit.
      one_letter l.number l.visit all.0.0 port None (history l.queue es) l m all.0.1 among refl refl
      number visit
      (omega (arith, seen_history l.number l.visit l.queue es, once l.number l.visit)),
  each_only es ls once all.1,
)

pub only_ones : (script : ScriptValue) (h : Histories) (notes : ℕ → List Note) →
    ArriveOnce h.entries → HaveLogs script h notes → AreOnlyOnes script h notes
only_ones script h notes once logs port is =
    each_only h.entries (heard (notes port)) once (logs.taken port is)
