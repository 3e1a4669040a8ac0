-- Notices that are known are those of arrivals that queues took, each by its packet's visit.
use Rattle.std.proofs.Common.{◌≡◌, ◌∙◌, ℕ, List, [], ◌∷◌, ◌++◌, refl, sym, ap, subst, inl, inr}
use Rattle.std.proofs.Common.{Bool, true, false, Option, Some, None, cond}
use Rattle.std.specs.Prelude.{find, ◌==◌, ◌⊎◌, unwrap_or}
use Rattle.std.specs.List.{AllByRecursion}
use Rattle.std.proofs.lemmas.Bool.{and_from, and_parts, eq-eqb, eqb-true}
use Rattle.packet_entry.specs.declared.letter.Letter.{Letter}
use Rattle.packet_entry.specs.declared.packet.Card.{Card}
use Rattle.queue_core.specs.State.{Bound}
use Rattle.queue_core.specs.Step.{step}
use Rattle.queue_core.specs.declared.event.Event.{Event}
use Rattle.queue_core.specs.declared.event.Event.TheVariants.{Arrive, Ask, PortClosed, DeviceDown}
use Rattle.queue_core.specs.declared.event.Reply.{Reply}
use Rattle.queue_core.specs.declared.event.Reply.TheVariants.{Arrived, Answer, Flushed}
use Rattle.queue_core.specs.declared.offers.Outcome.{Outcome}
use Rattle.queue_core.specs.declared.offers.Outcome.TheVariants as outcome
use Rattle.histories.specs.declared.entry.Entry.{Entry}
use Rattle.histories.specs.History.{history, is_of}
use Rattle.histories.specs.Letters.{letters_of_event, letters_of_outcome, letters_under}
use Rattle.run_parts.specs.Notices.{letters_from}
use Rattle.port_audit.specs.Makers.{IsAmong, IsTaken}
use Rattle.log_audit.specs.Telling.{IsKeyed}
use Rattle.log_audit.specs.Judged.{AllOnlyOnes}
use Rattle.log_audit.specs.Stays.{all_letters, is_visit, known_in, letters_at}

-- ---- among letters

among_left : (l : Letter) (xs ys : List Letter) → IsAmong l xs → IsAmong l (xs ++ ys)
among_left l (x ∷ xs) ys among = elim among [
  | inl here ↦ inl here
  | inr there ↦ inr (among_left l xs ys there)
]
among_left l [] ys among = absurd among

among_right : (l : Letter) (xs ys : List Letter) → IsAmong l ys → IsAmong l (xs ++ ys)
among_right l [] ys among = among
among_right l (x ∷ xs) ys among = inr (among_right l xs ys among)

pub among_either : (l : Letter) (xs ys : List Letter) → IsAmong l (xs ++ ys) →
    IsAmong l xs ⊎ IsAmong l ys
among_either l [] ys among = inr among
among_either l (x ∷ xs) ys among = elim among [
  | inl here ↦ inl (inl here)
  | inr there ↦ elim (among_either l xs ys there) [ inl a ↦ inl (inr a) | inr b ↦ inr b ]
]

-- what is found is among the letters, and is of this visit
found_by : (test : Letter → Bool) (x l : Letter) (xs : List Letter) (b : Bool) → test x ≡ b →
    (find test xs ≡ Some l → IsAmong l xs × (test l ≡ true)) →
    cond b (Some x) (find test xs) ≡ Some l → IsAmong l (x ∷ xs) × (test l ≡ true)
found_by test x l xs true is more same =
    let here : x ≡ l = ap (λ (o : Option Letter). unwrap_or o x) same in
    (inl (sym here), subst (λ y. test y ≡ true) here is)
found_by test x l xs false is more same = let rest = more same in (inr rest.0, rest.1)

found_among : (test : Letter → Bool) (ls : List Letter) (l : Letter) → find test ls ≡ Some l →
    IsAmong l ls × (test l ≡ true)
found_among test [] l found = let wrong : None ≡ Some l = found in absurd cc
found_among test (x ∷ xs) l found =
    found_by test x l xs (test x) refl (found_among test xs l) found

-- where one is among them, one is found
finds_by : (test : Letter → Bool) (x : Letter) (xs : List Letter) (b : Bool) →
    ((b ≡ false) → (m : Letter) × (find test xs ≡ Some m)) →
    (m : Letter) × (cond b (Some x) (find test xs) ≡ Some m)
finds_by test x xs true more = (x, refl)
finds_by test x xs false more = more refl

finds : (test : Letter → Bool) (ls : List Letter) (l : Letter) → IsAmong l ls → test l ≡ true →
    (m : Letter) × (find test ls ≡ Some m)
finds test [] l among is = absurd among
finds test (x ∷ xs) l among is =
    finds_by test x xs (test x) (λ other. elim among [
      | inl here ↦ absurd (clash (sym is ∙ ap test here ∙ other))
      | inr there ↦ finds test xs l there is
    ])
  where
    clash : true ≡ false → ⊥
    clash wrong = cc

-- ---- letters of a queue, for whatever port

if_port : (b : Bool) (l : Letter) (xs : List Letter) → IsAmong l (cond b xs []) → IsAmong l xs
if_port true l xs among = among
if_port false l xs among = absurd among

at_port : (port : ℕ) (l : Letter) (xs : List Letter) → IsAmong l xs →
    IsAmong l (cond (port == port) xs [])
at_port port l xs among = subst (λ b. IsAmong l (cond b xs [])) (sym (eq-eqb port port refl)) among

under_at : (port : ℕ) (q : Option Bound) (e : Entry) (l : Letter) →
    IsAmong l (letters_under port q e) → IsAmong l (letters_at q e)
under_at port None e l among = among
under_at port (Some q) e l among =
    if_port (port == q.port) l (letters_of_event e.queue q e.event e.reply) among

pub taken_among : (port : ℕ) (q : Option Bound) (es : List Entry) (l : Letter) →
    IsAmong l (letters_from port q es) → IsAmong l (all_letters q es)
taken_among port q [] l among = among
taken_among port q (e ∷ es) l among =
    elim (among_either l (letters_under port q e) (letters_from port (step q e.event).state es)
    among) [
      | inl here ↦ among_left l (letters_at q e) (all_letters (step q e.event).state es)
          (under_at port q e l here)
      | inr there ↦ among_right l (letters_at q e) (all_letters (step q e.event).state es)
          (taken_among port (step q e.event).state es l there)
    ]

at_under : (q : Option Bound) (e : Entry) (l : Letter) → IsAmong l (letters_at q e) →
    (port : ℕ) × IsAmong l (letters_under port q e)
at_under None e l among = absurd among
at_under (Some q) e l among =
    (q.port, at_port q.port l (letters_of_event e.queue q e.event e.reply) among)

among_taken : (q : Option Bound) (es : List Entry) (l : Letter) → IsAmong l (all_letters q es) →
    (port : ℕ) × IsAmong l (letters_from port q es)
among_taken q [] l among = absurd among
among_taken q (e ∷ es) l among =
    elim (among_either l (letters_at q e) (all_letters (step q e.event).state es) among) [
      | inl here ↦ let at = at_under q e l here in (
        at.0,
        among_left l (letters_under at.0 q e) (letters_from at.0 (step q e.event).state es) at.1,
      )
      | inr there ↦ let more = among_taken (step q e.event).state es l there in (
        more.0,
        among_right l (letters_under more.0 q e)
            (letters_from more.0 (step q e.event).state es) more.1,
      )
    ]

-- ---- a letter is of its entry's queue

outcome_queue : (queue : ℕ) (q : Bound) (card : Card) (o : Outcome) (l : Letter) →
    IsAmong l (letters_of_outcome queue q card o) → l.queue ≡ queue
outcome_queue queue q card (outcome.Taken id) l among = elim among [
  | inl here ↦ ap (λ (x : Letter). x.queue) here
  | inr there ↦ absurd there
]
outcome_queue queue q card outcome.Overflow l among = absurd among
outcome_queue queue q card outcome.OverflowOpen l among = absurd among
outcome_queue queue q card (outcome.UserFull id) l among = absurd among
outcome_queue queue q card (outcome.UserFullOpen id) l among = absurd among
outcome_queue queue q card outcome.NoQueue l among = absurd among
outcome_queue queue q card outcome.Bypassed l among = absurd among
outcome_queue queue q card outcome.CopyNone l among = absurd among
outcome_queue queue q card outcome.Loop l among = absurd among

event_queue : (queue : ℕ) (q : Bound) (event : Event) (reply : Reply) (l : Letter) →
    IsAmong l (letters_of_event queue q event reply) → l.queue ≡ queue
event_queue queue q (Arrive card bypass room) (Arrived o) l among =
    outcome_queue queue q card o l among
event_queue queue q (Arrive card bypass room) (Answer errno taken) l among = absurd among
event_queue queue q (Arrive card bypass room) (Flushed taken) l among = absurd among
event_queue queue q (Ask port call request) reply l among = absurd among
event_queue queue q (PortClosed port) reply l among = absurd among
event_queue queue q (DeviceDown device) reply l among = absurd among

at_queue_of : (q : Option Bound) (e : Entry) (l : Letter) → IsAmong l (letters_at q e) →
    l.queue ≡ e.queue
at_queue_of None e l among = absurd among
at_queue_of (Some q) e l among = event_queue e.queue q e.event e.reply l among

abbrev AreOf : ℕ → List Entry → Type 0
AreOf queue es = AllByRecursion (λ (e : Entry). e.queue ≡ queue) es

of_history : (queue : ℕ) (es : List Entry) → AreOf queue (history queue es)
of_history queue [] = tt
of_history queue (e ∷ es) = by (is_of queue e) refl (of_history queue es)
  where
    by : (b : Bool) → is_of queue e ≡ b → AreOf queue (history queue es) →
        AreOf queue (cond b (e ∷ history queue es) (history queue es))
    by true is rest = (eqb-true e.queue queue is, rest)
    by false is rest = rest

all_of_queue : (queue : ℕ) (q : Option Bound) (es : List Entry) (l : Letter) → AreOf queue es →
    IsAmong l (all_letters q es) → l.queue ≡ queue
all_of_queue queue q [] l are among = absurd among
all_of_queue queue q (e ∷ es) l are among =
    elim (among_either l (letters_at q e) (all_letters (step q e.event).state es) among) [
      | inl here ↦ at_queue_of q e l here ∙ are.0
      | inr there ↦ all_of_queue queue (step q e.event).state es l are.1 there
    ]

-- ---- what is known

pub keyed_in : (es : List Entry) → IsKeyed (known_in es)
keyed_in es queue number visit l is =
    let found = found_among (is_visit number visit) (all_letters None (history queue es)) l is in
    let parts = and_parts (l.number == number) (l.visit == visit) found.1 in (
      all_of_queue queue None (history queue es) l (of_history queue es) found.0,
      eqb-true l.number number parts.0,
      eqb-true l.visit visit parts.1,
    )

pub known_taken : (es : List Entry) (l : Letter) → known_in es l.queue l.number l.visit ≡ Some l →
    IsTaken es l
known_taken es l is =
    let found = found_among (is_visit l.number l.visit) (all_letters None (history l.queue es)) l is
    in
    among_taken None (history l.queue es) l found.0

pub taken_known : (es : List Entry) → AllOnlyOnes es → (l : Letter) → IsTaken es l →
    known_in es l.queue l.number l.visit ≡ Some l
taken_known es ones l taken =
    let ls = all_letters None (history l.queue es) in
    let test = is_visit l.number l.visit in
    let own : test l ≡ true =
    and_from (l.number == l.number) (l.visit == l.visit) (eq-eqb l.number l.number refl)
    (eq-eqb l.visit l.visit refl) in
    let some = finds test ls l (taken_among taken.0 None (history l.queue es) l taken.1) own in
    let found = found_among test ls some.0 some.1 in
    let parts = and_parts (some.0.number == l.number) (some.0.visit == l.visit) found.1 in
    let other = among_taken None (history l.queue es) some.0 found.0 in
    some.1 ∙ ap (λ (m : Letter). Some m) (sym (ones l taken other.0 some.0 other.1
    (eqb-true some.0.number l.number parts.0) (eqb-true some.0.visit l.visit parts.1)))
