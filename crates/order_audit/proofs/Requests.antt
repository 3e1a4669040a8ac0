-- Requests among entries and steps, and the positions of their messages.
use Rattle.std.proofs.Common.{◌≡◌, ◌≤◌, ◌<◌, ℕ, List, [], ◌∷◌, refl, sym, subst, ◌∙◌, inl, inr}
use Rattle.std.proofs.Common.{Bool, true, false, arith}
use Rattle.std.specs.Prelude.{◌||◌, slice_get, if◌then◌else◌}
use Rattle.std.proofs.lemmas.Bool.{or_cases, or_left, or_right, eq-eqb}
use Rattle.std.proofs.lemmas.List.Folds.{list_any-append}
use Rattle.nfqa_msgs.specs.declared.request.Request.{Request}
use Rattle.queue_core.specs.declared.event.Event.{Event}
use Rattle.queue_core.specs.declared.event.Event.TheVariants.{Arrive, Ask, PortClosed, DeviceDown}
use Rattle.histories.specs.declared.entry.Entry.{Entry}
use Rattle.histories.specs.declared.log.PortLog.{PortLog}
use Rattle.histories.specs.History.{history, is_of}
use Rattle.total_order.specs.Orders.{EachIs}
use Rattle.total_order.specs.Steps.{Step, IsSent, log_of, IsCausedAs, InLogOrderAs}
use Rattle.total_order.specs.TotalOrder.{entries}
use Rattle.order_audit.specs.Sets.{is_asked, asks, asks_by}
use Rattle.order_audit.specs.Walking.{IsBehindAs}
use Rattle.order_audit.proofs.Entries.{GoOn}
use Rattle.order_audit.proofs.Departures.{pair_parts}

-- ---- messages that are asked

-- where no step asks it, it isn't asked
pub none_asked : (port call : ℕ) (ss : List Step) →
    EachIs (λ y. asks port call y.entry ≡ true → ⊥) ss → is_asked port call (entries ss) ≡ true → ⊥
none_asked port call [] none is = absurd (cc is)
none_asked port call (s ∷ ss) none is =
    elim (or_cases (asks port call s.entry) (is_asked port call (entries ss)) is) [
      | inl here ↦ none.0 here
      | inr there ↦ none_asked port call ss none.1 there
    ]

-- what is asked at a queue is asked
pub asked_of_queue : (port call queue : ℕ) (es : List Entry) →
    is_asked port call (history queue es) ≡ true → is_asked port call es ≡ true
asked_of_queue port call queue [] is = is
asked_of_queue port call queue (e ∷ es) is =
    by (is_of queue e) is (asked_of_queue port call queue es)
  where
    by : (b : Bool) →
        is_asked port call (if b then e ∷ history queue es else history queue es) ≡ true →
        (is_asked port call (history queue es) ≡ true → is_asked port call es ≡ true) →
        asks port call e || is_asked port call es ≡ true
    by true is on =
        elim (or_cases (asks port call e) (is_asked port call (history queue es)) is) [
          | inl here ↦ or_left (asks port call e) (is_asked port call es) here
          | inr there ↦ or_right (asks port call e) (is_asked port call es) (on there)
        ]
    by false is on = or_right (asks port call e) (is_asked port call es) (on is)

-- what is asked is asked at a queue
pub asked_in_queue : (port call : ℕ) (es : List Entry) → is_asked port call es ≡ true →
    (queue : ℕ) × (is_asked port call (history queue es) ≡ true)
asked_in_queue port call [] is = absurd (cc is)
asked_in_queue port call (e ∷ es) is =
    elim (or_cases (asks port call e) (is_asked port call es) is) [
      | inl here ↦ (
        e.queue,
        subst (λ b. is_asked port call (if b then e ∷ history e.queue es
            else history e.queue es) ≡ true) (sym (eq-eqb e.queue e.queue refl))
            (or_left (asks port call e) (is_asked port call (history e.queue es)) here),
      )
      | inr there ↦ (let q = asked_in_queue port call es there in
          (q.0, by q.0 (is_of q.0 e) q.1))
    ]
  where
    by : (queue : ℕ) (b : Bool) → is_asked port call (history queue es) ≡ true →
        is_asked port call (if b then e ∷ history queue es else history queue es) ≡ true
    by queue true on = or_right (asks port call e) (is_asked port call (history queue es)) on
    by queue false on = on

-- what is asked in each queue goes on to be asked
pub asked_on : (port call : ℕ) (es fs : List Entry) → GoOn es fs → is_asked port call es ≡ true →
    is_asked port call fs ≡ true
asked_on port call es fs on is =
    let q = asked_in_queue port call es is in
    asked_of_queue port call q.0 fs
    (subst (λ xs. is_asked port call xs ≡ true) (on q.0).1
    (list_any-append (asks port call) (history q.0 es) (on q.0).0
    ∙ or_left (is_asked port call (history q.0 es)) (is_asked port call (on q.0).0) q.1))

-- ---- positions

-- a request is at its message
abbrev pub IsPlacedAs : List PortLog → ℕ → Event → Type 0
IsPlacedAs logs at (Arrive card bypass room) = Unit {0}
IsPlacedAs logs at (Ask port call request) = IsSent call (slice_get (log_of port logs) at)
IsPlacedAs logs at (PortClosed port) = Unit {0}
IsPlacedAs logs at (DeviceDown device) = Unit {0}

-- the same of a step
abbrev pub IsPlaced : List PortLog → Step → Type 0
IsPlaced logs s = IsPlacedAs logs s.at s.entry.event

-- what is caused is placed
pub placed : (logs : List PortLog) (es : List Entry) (at : ℕ) (e : Event) →
    IsCausedAs logs es at e → IsPlacedAs logs at e
placed logs es at (Arrive card bypass room) is = tt
placed logs es at (Ask port call request) is = is.sent
placed logs es at (PortClosed port) is = tt
placed logs es at (DeviceDown device) is = tt

module _ (logs : List PortLog) (port call n : ℕ)
    (unique : (i j : ℕ) → IsSent call (slice_get (log_of port logs) i) →
    IsSent call (slice_get (log_of port logs) j) → i ≡ j)
    (sent : IsSent call (slice_get (log_of port logs) n)) where
  -- no request that went has the message at the cursor
  pub behind_not : (cursor : ℕ → ℕ) (at : ℕ) (e : Event) → cursor port ≤ n → IsPlacedAs logs at e →
      IsBehindAs logs cursor at e → asks_by port call e ≡ true → ⊥
  behind_not cursor at (Arrive card bypass room) le is behind by = absurd (cc by)
  behind_not cursor at (PortClosed closed) le is behind by = absurd (cc by)
  behind_not cursor at (DeviceDown device) le is behind by = absurd (cc by)
  behind_not cursor at (Ask other number request) le is behind by =
      let parts = pair_parts port call (other, number) by in
      let there = subst (λ p. IsSent number (slice_get (log_of p logs) at)) parts.0 is in
      let same = unique at n (subst (λ c. IsSent c (slice_get (log_of port logs) at)) parts.1 there)
      sent in
      let less = subst (λ p. at < cursor p) parts.0 behind in
      omega (arith, same, less, le)

  -- no later request has an earlier message
  pub after_not : (mine at : ℕ) (asked : Request) (m : ℕ) (e : Event) → n ≤ m →
      IsPlacedAs logs at e → InLogOrderAs (Ask port mine asked) m e at → asks_by port call e ≡ true → ⊥
  after_not mine at asked m (Arrive card bypass room) le is kept by = absurd (cc by)
  after_not mine at asked m (PortClosed closed) le is kept by = absurd (cc by)
  after_not mine at asked m (DeviceDown device) le is kept by = absurd (cc by)
  after_not mine at asked m (Ask other number request) le is kept by =
      let parts = pair_parts port call (other, number) by in
      let there = subst (λ p. IsSent number (slice_get (log_of p logs) at)) parts.0 is in
      let same = unique at n (subst (λ c. IsSent c (slice_get (log_of port logs) at)) parts.1 there)
      sent in
      let less = kept (sym parts.0) in
      omega (arith, same, less, le)

  -- no earlier request has the same message
  pub before_not : (mine at : ℕ) (asked : Request) (e : Event) → IsPlacedAs logs at e →
      InLogOrderAs e at (Ask port mine asked) n → asks_by port call e ≡ true → ⊥
  before_not mine at asked (Arrive card bypass room) is kept by = absurd (cc by)
  before_not mine at asked (PortClosed closed) is kept by = absurd (cc by)
  before_not mine at asked (DeviceDown device) is kept by = absurd (cc by)
  before_not mine at asked (Ask other number request) is kept by =
      let parts = pair_parts port call (other, number) by in
      let there = subst (λ p. IsSent number (slice_get (log_of p logs) at)) parts.0 is in
      let same = unique at n (subst (λ c. IsSent c (slice_get (log_of port logs) at)) parts.1 there)
      sent in
      let less = kept parts.0 in
      omega (arith, same, less)

-- no request of a port comes after its closing
pub closed_not : (port call n at : ℕ) (e : Event) → InLogOrderAs (PortClosed port) n e at →
    asks_by port call e ≡ true → ⊥
closed_not port call n at (Arrive card bypass room) kept by = absurd (cc by)
closed_not port call n at (PortClosed closed) kept by = absurd (cc by)
closed_not port call n at (DeviceDown device) kept by = absurd (cc by)
closed_not port call n at (Ask other number request) kept by =
    kept (sym (pair_parts port call (other, number) by).0)
