-- Ports that closed, entry by entry.
use Rattle.std.proofs.Common.{◌≡◌, ◌<◌, ℕ, List, [], ◌∷◌, ◌++◌, Option, Some, None, Bool}
use Rattle.std.proofs.Common.{true, false, refl, sym, ap, ◌∙◌, subst, inl, inr, cond}
use Rattle.std.proofs.Common.{map, true≢false}
use Rattle.std.specs.Prelude.{◌==◌, nat_eq, ◌||◌, ◌&&◌, not, filter, ⊤}
use Rattle.std.specs.List.{list_any}
use Rattle.std.specs.BTreeMap.{get, is_at}
use Rattle.std.specs.Ordering.{nat_cmp}
use Rattle.std.proofs.lemmas.Bool.{cases_Bool, eq-eqb, eqb-true, and_parts}
use Rattle.std.proofs.lemmas.List.Folds.{list_any-append}
use Rattle.queue_core.specs.State.{Bound}
use Rattle.queue_core.specs.declared.event.Event.{Event}
use Rattle.queue_core.specs.declared.event.Event.TheVariants.{Arrive, Ask, PortClosed, DeviceDown}
use Rattle.histories.specs.Numbers.{queue_count}
use Rattle.histories.specs.declared.entry.Entry.{Entry}
use Rattle.histories.specs.declared.log.Did.{Did}
use Rattle.histories.specs.declared.log.Did.TheVariants.{Received, Sent, Closed}
use Rattle.histories.specs.declared.histories.Histories.{Histories}
use Rattle.histories.specs.History.{history, replay}
use Rattle.inspector_script.specs.Scripts.{ScriptValue}
use Rattle.run_parts.specs.Log.{Note, logged, unanswered}
use Rattle.run_parts.specs.Closing.{IsClosing, is_closing_of, is_of_port, behind_first, closes}
use Rattle.run_parts.specs.Closing.{is_by}
use Rattle.run_parts.specs.Closing.{is_bound_to, is_closed}
use Rattle.run_parts.specs.Ports.{is_port}
use Rattle.run_parts.specs.Run.{ClosingHolds}
use Rattle.port_audit.specs.Closing.{AllShut, ShutMap, shut_at, shut_in, breaks, closing_in}
use Rattle.port_audit.specs.Closing.{Notes}
use Rattle.port_audit.specs.Closing.{EndsWell, ends_badly, has_closed, is_in}
use Rattle.queue_replay.specs.Replays.{QueueMap, queue_in, port_in, AreReplayed}
use Rattle.port_audit.specs.Told.{AreTold, dids_of}
use Rattle.histories.specs.NumberKeys.{at_own, not_of}
use Rattle.histories.specs.QueueHistories.{each_on, own_within, own_last, others_last}
use Rattle.port_audit.proofs.HeardNotices.{or_right, or_none, or_left_none, choose, chosen}

-- ---- what stands behind the first

module _ (test : Entry → Bool) where
  behind_found : (es fs : List Entry) → list_any test es ≡ true →
      behind_first test (es ++ fs) ≡ behind_first test es ++ fs
  behind_found [] fs some = absurd (true≢false (sym some))
  behind_found (e ∷ es) fs some = by (test e) some (behind_found es fs)
    where
      by : (b : Bool) → (b || list_any test es) ≡ true →
          (list_any test es ≡ true → behind_first test (es ++ fs) ≡ behind_first test es ++ fs) →
          cond b (es ++ fs) (behind_first test (es ++ fs)) ≡ cond b es (behind_first test es) ++ fs
      by true some rest = refl
      by false some rest = rest some

  behind_none : (es : List Entry) (e : Entry) → list_any test es ≡ false →
      behind_first test (es ++ e ∷ []) ≡ []
  behind_none [] e none = by (test e)
    where
      by : (b : Bool) → cond {A = List Entry} b [] [] ≡ []
      by true = refl
      by false = refl
  behind_none (d ∷ es) e none = by (test d) none (behind_none es e)
    where
      by : (b : Bool) → (b || list_any test es) ≡ false →
          (list_any test es ≡ false → behind_first test (es ++ e ∷ []) ≡ []) →
          cond b (es ++ e ∷ []) (behind_first test (es ++ e ∷ [])) ≡ []
      by true none rest = absurd (true≢false none)
      by false none rest = rest none

-- ---- one history so far

-- behind the port's closing nothing of it stands, where it closed; and else it has no closing
abbrev pub IsFine : ℕ → Bool → List Entry → Type 0
IsFine p true h = list_any (is_of_port p) (behind_first (is_closing_of p) h) ≡ false
IsFine p false h = list_any (is_closing_of p) h ≡ false

module _ (p : ℕ) (h : List Entry) (e : Entry) where
  some_then : list_any (is_closing_of p) (h ++ e ∷ [])
      ≡ (list_any (is_closing_of p) h || (is_closing_of p e || false))
  some_then = list_any-append (is_closing_of p) h (e ∷ [])

  fine_on : (b : Bool) → IsFine p b h →
      (list_any (is_closing_of p) h ≡ true → is_of_port p e ≡ false) →
      (b ≡ false → is_closing_of p e ≡ false) → IsFine p b (h ++ e ∷ [])
  fine_on true fine quiet none = elim (cases_Bool (list_any (is_closing_of p) h)) [
    | inl some ↦ ap (list_any (is_of_port p)) (behind_found (is_closing_of p) h (e ∷ []) some)
        ∙ list_any-append (is_of_port p) (behind_first (is_closing_of p) h) (e ∷ [])
        ∙ or_none (list_any (is_of_port p) (behind_first (is_closing_of p) h))
        (is_of_port p e || false) fine (or_none (is_of_port p e) false (quiet some) refl)
    | inr some ↦ ap (list_any (is_of_port p)) (behind_none (is_closing_of p) h e some)
  ]
  fine_on false fine quiet none =
      some_then ∙ or_none (list_any (is_closing_of p) h) (is_closing_of p e || false) fine
      (or_none (is_closing_of p e) false (none refl) refl)

  -- something of a port behind its closing
  broken_behind : (b : Bool) (rest : List Entry) → list_any (is_closing_of p) h ≡ true →
      is_of_port p e ≡ true → IsClosing p b (h ++ e ∷ rest) → ⊥
  broken_behind true rest some own is =
      true≢false (sym (
      ap (list_any (is_of_port p)) (behind_found (is_closing_of p) h (e ∷ rest) some)
      ∙ list_any-append (is_of_port p) (behind_first (is_closing_of p) h) (e ∷ rest)
      ∙ or_right (list_any (is_of_port p) (behind_first (is_closing_of p) h))
      (is_of_port p e || list_any (is_of_port p) rest)
      (ap (λ b. b || list_any (is_of_port p) rest) own)) ∙ is.last)
  broken_behind false rest some own is =
      true≢false (sym some ∙ or_left_none (list_any (is_closing_of p) h)
      (list_any (is_closing_of p) (e ∷ rest))
      (sym (list_any-append (is_closing_of p) h (e ∷ rest)) ∙ is))

  -- a closing of a port that didn't close
  broken_closing : (rest : List Entry) → is_closing_of p e ≡ true →
      IsClosing p false (h ++ e ∷ rest) → ⊥
  broken_closing rest own is =
      true≢false (sym (list_any-append (is_closing_of p) h (e ∷ rest)
      ∙ or_right (list_any (is_closing_of p) h)
      (is_closing_of p e || list_any (is_closing_of p) rest)
      (ap (λ b. b || list_any (is_closing_of p) rest) own)) ∙ is)

-- ---- one event

module _ (ports closed shut : List ℕ) where
  -- what is refused of a port, and what isn't
  quiet_if : (p : ℕ) (event : Event) → is_in ports p ≡ true → is_in shut p ≡ true →
      breaks ports closed shut event ≡ false → is_by p event ≡ false
  quiet_if p (Arrive card bypass room) is some fits = refl
  quiet_if p (Ask port call request) is some fits = elim (cases_Bool (p == port)) [
    | inl own ↦ absurd (true≢false (sym (subst (λ n. (is_in ports n && is_in shut n) ≡ true)
        (eqb-true p port own) (ap (λ b. b && is_in shut p) is ∙ some)) ∙ fits))
    | inr other ↦ other
  ]
  quiet_if p (PortClosed port) is some fits = elim (cases_Bool (p == port)) [
    | inl own ↦ absurd (true≢false (sym (subst (λ n. (is_in ports n
        && (not (is_in closed n) || is_in shut n)) ≡ true) (eqb-true p port own)
        (ap (λ b. b && (not (is_in closed p) || is_in shut p)) is
        ∙ or_right (not (is_in closed p)) (is_in shut p) some)) ∙ fits))
    | inr other ↦ other
  ]
  quiet_if p (DeviceDown device) is some fits = refl

  none_if : (p : ℕ) (event : Event) → is_in ports p ≡ true → is_in closed p ≡ false →
      breaks ports closed shut event ≡ false → closes p event ≡ false
  none_if p (Arrive card bypass room) is open_still fits = refl
  none_if p (Ask port call request) is open_still fits = refl
  none_if p (PortClosed port) is open_still fits = elim (cases_Bool (p == port)) [
    | inl own ↦ absurd (true≢false (sym (subst (λ n. (is_in ports n
        && (not (is_in closed n) || is_in shut n)) ≡ true) (eqb-true p port own)
        (ap (λ b. b && (not (is_in closed p) || is_in shut p)) is
        ∙ ap (λ b. not b || is_in shut p) open_still)) ∙ fits))
    | inr other ↦ other
  ]
  none_if p (DeviceDown device) is open_still fits = refl

  -- who closed so far
  one_in : (p port : ℕ) (b : Bool) → is_in ports port ≡ b → is_in ports p ≡ true →
      is_in (cond b (port ∷ []) []) p ≡ (p == port || false)
  one_in p port true in_ is = refl
  one_in p port false in_ is = elim (cases_Bool (p == port)) [
    | inl own ↦ absurd (true≢false
        (sym (ap (is_in ports) (sym (eqb-true p port own)) ∙ is) ∙ in_))
    | inr other ↦ sym (ap (λ b. b || false) other)
  ]

  shut_then : (p : ℕ) (event : Event) → is_in ports p ≡ true →
      is_in (closing_in ports event) p ≡ (closes p event || false)
  shut_then p (Arrive card bypass room) is = refl
  shut_then p (Ask port call request) is = refl
  shut_then p (PortClosed port) is = one_in p port (is_in ports port) refl is
  shut_then p (DeviceDown device) is = refl

  -- what is refused
  broken : (h rest : List Entry) (e : Entry) →
      ((p : ℕ) → is_in ports p ≡ true → is_in shut p ≡ list_any (is_closing_of p) h) →
      (event : Event) → e.event ≡ event → breaks ports closed shut event ≡ true →
      ((p : ℕ) → is_in ports p ≡ true → IsClosing p (is_in closed p) (h ++ e ∷ rest)) → ⊥
  broken h rest e same (Arrive card bypass room) is breaks_ all =
      true≢false (sym breaks_)
  broken h rest e same (Ask port call request) is breaks_ all =
      let both = and_parts (is_in ports port) (is_in shut port) breaks_ in
      broken_behind port h e (is_in closed port) rest (sym (same port both.0) ∙ both.1)
      (ap (is_by port) is ∙ eq-eqb port port refl) (all port both.0)
  broken h rest e same (PortClosed port) is breaks_ all =
      let both = and_parts (is_in ports port) (not (is_in closed port) || is_in shut port) breaks_
      in elim (cases_Bool (is_in shut port)) [
        | inl some ↦ broken_behind port h e (is_in closed port) rest
            (sym (same port both.0) ∙ some) (ap (is_by port) is ∙ eq-eqb port port refl)
            (all port both.0)
        | inr none ↦ not_closed (is_in closed port) refl
            (sym (ap (λ b. not (is_in closed port) || b) none) ∙ both.1) (all port both.0)
      ]
    where
      not_closed : (b : Bool) → is_in closed port ≡ b → (not b || false) ≡ true →
          IsClosing port b (h ++ e ∷ rest) → ⊥
      not_closed true closes_ wrong all_ = true≢false (sym wrong)
      not_closed false closes_ right all_ =
          broken_closing port h e rest (ap (closes port) is ∙ eq-eqb port port refl) all_
  broken h rest e same (DeviceDown device) is breaks_ all =
      true≢false (sym breaks_)

-- ---- all histories so far

pub record AreShutting (ports closed : List ℕ) (shut : ShutMap) (before : List Entry)
    : Type 0 where
  pub shut_is : (p : ℕ) → is_in ports p ≡ true → (queue : ℕ) →
      is_in (shut_at shut queue) p ≡ list_any (is_closing_of p) (history queue before)
  pub fine : (p : ℕ) → is_in ports p ≡ true → (queue : ℕ) →
      IsFine p (is_in closed p) (history queue before)

pub none_shut : (ports closed : List ℕ) (shut : ShutMap) →
    ((queue : ℕ) → get nat_cmp shut queue ≡ None) → AreShutting ports closed shut []
none_shut ports closed shut none = record {
  shut_is = λ p is queue. ap (λ o. is_in (shut_in o) p) (none queue);
  fine = λ p is queue. nothing p (is_in closed p);
}
  where
    nothing : (p : ℕ) (b : Bool) → IsFine p b []
    nothing p true = refl
    nothing p false = refl

module _ (ports closed : List ℕ) (old new : ShutMap) (before : List Entry) (e : Entry)
    (are : AreShutting ports closed old before) where
  pub shutting_on : breaks ports closed (shut_at old e.queue) e.event ≡ false →
      Notes ports old new e → AreShutting ports closed new (before ++ e ∷ [])
  shutting_on fits notes = record {
    shut_is = shut_on;
    fine = λ p is. each_on (λ _ h. IsFine p (is_in closed p) h) before e (are.fine p is)
        (λ was. fine_on p (history e.queue before) e (is_in closed p) was
        (λ some. quiet_if ports closed (shut_at old e.queue) p e.event is
        (are.shut_is p is e.queue ∙ some) fits)
        (λ not_closed. none_if ports closed (shut_at old e.queue) p e.event is not_closed fits));
  }
    where
      own : (p : ℕ) → is_in ports p ≡ true → is_in (shut_at new e.queue) p
          ≡ list_any (is_closing_of p) (history e.queue (before ++ e ∷ []))
      own p is =
          ap (λ xs. is_in xs p) notes.own
          ∙ list_any-append (nat_eq p) (shut_at old e.queue) (closing_in ports e.event)
          ∙ ap (λ b. b || is_in (closing_in ports e.event) p) (are.shut_is p is e.queue)
          ∙ ap (λ b. list_any (is_closing_of p) (history e.queue before) || b)
          (shut_then ports closed (shut_at old e.queue) p e.event is)
          ∙ sym (some_then p (history e.queue before) e)
          ∙ sym (ap (list_any (is_closing_of p)) (own_last before e))

      shut_on : (p : ℕ) → is_in ports p ≡ true → (queue : ℕ) →
          is_in (shut_at new queue) p
          ≡ list_any (is_closing_of p) (history queue (before ++ e ∷ []))
      shut_on p is queue = elim (cases_Bool (is_at (nat_cmp e.queue) queue)) [
        | inl here ↦ subst (λ q. is_in (shut_at new q) p
            ≡ list_any (is_closing_of p) (history q (before ++ e ∷ [])))
            (at_own e.queue queue here) (own p is)
        | inr other ↦ ap (λ o. is_in (shut_in o) p) (notes.others queue other)
            ∙ are.shut_is p is queue
            ∙ sym (ap (list_any (is_closing_of p))
            (others_last before e queue (not_of e.queue queue other)))
      ]

  pub shutting_breaks : (others : List Entry) → e.queue < queue_count →
      breaks ports closed (shut_at old e.queue) e.event ≡ true →
      AllShut ports closed (before ++ e ∷ others) → ⊥
  shutting_breaks others short bad all =
      broken ports closed (shut_at old e.queue) (history e.queue before)
      (history e.queue others) e (λ p is. are.shut_is p is e.queue) e.event refl bad
      (λ p is. subst (IsClosing p (is_in closed p))
      (own_within e.queue before others e (eq-eqb e.queue e.queue refl))
      (all p is e.queue short))

-- ---- the end

closing_is : (p : ℕ) (b : Bool) (h : List Entry) → IsFine p b h →
    (b ≡ true → is_bound_to p (replay h) ≡ false) → IsClosing p b h
closing_is p true h fine unbound = record { last = fine; unbound = unbound refl }
closing_is p false h fine unbound = fine

unbound_if : (p : ℕ) (b : Bool) (h : List Entry) → b ≡ true → IsClosing p b h →
    is_bound_to p (replay h) ≡ false
unbound_if p true h is closing = closing.unbound
unbound_if p false h is closing = absurd (true≢false (sym is))

module _ (ports closed : List ℕ) (shut : ShutMap) (es : List Entry) (queues : QueueMap)
    (are : AreShutting ports closed shut es) (replayed : AreReplayed es queues) where
  pub all_shut_if : ((queue : ℕ) → queue < queue_count →
      EndsWell ports closed (queue_in (get nat_cmp queues queue))) → AllShut ports closed es
  all_shut_if well p is queue short =
      closing_is p (is_in closed p) (history queue es) (are.fine p is queue)
      (λ closes_. subst (λ q. is_bound_to p q ≡ false) (replayed queue)
      (well queue short p is closes_))

  pub ends_well_if : AllShut ports closed es → (queue : ℕ) → queue < queue_count →
      EndsWell ports closed (queue_in (get nat_cmp queues queue))
  ends_well_if all queue short p is closes_ =
      subst (λ q. is_bound_to p q ≡ false) (sym (replayed queue))
      (unbound_if p (is_in closed p) (history queue es) closes_ (all p is queue short))

-- a queue's end
pub ends_well : (ports closed : List ℕ) (q : Option Bound) →
    ends_badly ports closed (port_in q) ≡ false → EndsWell ports closed q
ends_well ports closed None fits p is closes_ = refl
ends_well ports closed (Some q) fits p is closes_ = elim (cases_Bool (p == q.port)) [
  | inl own ↦ absurd (true≢false (sym (subst (λ n. (is_in ports n && is_in closed n) ≡ true)
      (eqb-true p q.port own) (ap (λ b. b && is_in closed p) is ∙ closes_)) ∙ fits))
  | inr other ↦ other
]

pub badly_ends : (ports closed : List ℕ) (q : Option Bound) →
    ends_badly ports closed (port_in q) ≡ true → EndsWell ports closed q → ⊥
badly_ends ports closed None bad well = true≢false (sym bad)
badly_ends ports closed (Some q) bad well =
    let both = and_parts (is_in ports q.port) (is_in closed q.port) bad in
    true≢false (sym (eq-eqb q.port q.port refl) ∙ well q.port both.0 both.1)

-- ---- what is judged

one_closed : (d : Did) → is_closed (unanswered d) ≡ is_closed d
one_closed (Received queue number visit) = refl
one_closed (Sent call ask answer) = refl
one_closed Closed = refl

some_closed : (ds : List Did) → list_any is_closed (map unanswered ds) ≡ list_any is_closed ds
some_closed [] = refl
some_closed (d ∷ ds) =
    ap (λ b. b || list_any is_closed (map unanswered ds)) (one_closed d)
    ∙ ap (λ b. is_closed d || b) (some_closed ds)

module _ (script : ScriptValue) (h : Histories) (notes : ℕ → List Note)
    (told : AreTold script h notes) where
  closed_is : (p : ℕ) → is_port script p ≡ true →
      is_in (filter (has_closed h.logs) script.ports) p ≡ list_any is_closed (logged p (notes p))
  closed_is p is = chosen_is (has_closed h.logs p) refl
      ∙ sym (some_closed (dids_of p h.logs)) ∙ ap (list_any is_closed) (told p is)
      ∙ some_closed (logged p (notes p))
    where
      chosen_is : (b : Bool) → has_closed h.logs p ≡ b →
          is_in (filter (has_closed h.logs) script.ports) p ≡ has_closed h.logs p
      chosen_is true has = choose (has_closed h.logs) p script.ports is has ∙ sym has
      chosen_is false has = elim (cases_Bool (is_in (filter (has_closed h.logs) script.ports) p)) [
        | inl some ↦ absurd (true≢false
            (sym (chosen (has_closed h.logs) p script.ports some).1 ∙ has))
        | inr none ↦ none ∙ sym has
      ]

  pub closings_if : AllShut script.ports (filter (has_closed h.logs) script.ports) h.entries →
      ClosingHolds script h notes
  closings_if all p is queue short =
      subst (λ b. IsClosing p b (history queue h.entries)) (closed_is p is) (all p is queue short)

  pub all_shut_from : ClosingHolds script h notes →
      AllShut script.ports (filter (has_closed h.logs) script.ports) h.entries
  all_shut_from holds p is queue short =
      subst (λ b. IsClosing p b (history queue h.entries)) (sym (closed_is p is))
      (holds p is queue short)

-- a queue that isn't kept is bound to no port
abbrev pub EndsWellIn : List ℕ → List ℕ → Option (Option Bound) → Type 0
EndsWellIn ports closed None = ⊤
EndsWellIn ports closed (Some q) = EndsWell ports closed q

pub none_bad : (ports closed : List ℕ) (o : Option (Option Bound)) →
    EndsWellIn ports closed o → EndsWell ports closed (queue_in o)
none_bad ports closed None holds = λ p is closes_. refl
none_bad ports closed (Some q) holds = holds
