-- Histories that are gone over: an entry goes, and a log is gone over by one more.
use Rattle.std.proofs.Common.{◌≡◌, ℕ, zero, suc, ◌-◌, List, [], ◌∷◌, ◌++◌, refl, sym, ap, subst}
use Rattle.std.proofs.Common.{◌∙◌, inl, inr, Bool, true, false, Option, Some, None, arith, Result}
use Rattle.std.proofs.Common.{Ok, Err, OnOk, take, drop}
use Rattle.std.specs.Prelude.{◌==◌, ◌↔◌, ◌⊎◌, ◌||◌, nat_lt, slice_get, is_none, if◌then◌else◌}
use Rattle.std.specs.Ordering.{nat_cmp}
use Rattle.std.specs.BTreeMap.{get}
use Rattle.std.proofs.lemmas.Bool.{or_cases, or_left, or_right, eqb-true, eq-eqb, not-true}
use Rattle.std.proofs.lemmas.Bool.{ltb-true}
use Rattle.queue_core.specs.Step.{step}
use Rattle.queue_core.specs.Laws.{leaving_in}
use Rattle.queue_core.specs.declared.event.Event.{Event}
use Rattle.queue_core.specs.declared.event.Event.TheVariants.{Arrive, Ask, PortClosed, DeviceDown}
use Rattle.histories.specs.declared.entry.Entry.{Entry}
use Rattle.histories.specs.declared.histories.Histories.{Histories}
use Rattle.histories.specs.declared.log.Did.{Did}
use Rattle.histories.specs.declared.log.Did.TheVariants.{Received, Sent, Closed}
use Rattle.histories.specs.declared.log.PortLog.{PortLog}
use Rattle.histories.specs.History.{history, is_of, replay, IsStep, AreLegal}
use Rattle.histories.specs.NumberKeys.{each_number, not_of}
use Rattle.histories.specs.QueueHistories.{own_last, others_last, step_at}
use Rattle.queue_replay.specs.Leaving.{visits_left}
use Rattle.total_order.specs.Orders.{EachIs}
use Rattle.total_order.specs.Steps.{Step, Has, HasLeft, HasCome, IsSent, log_of, taken, IsCausedAs}
use Rattle.total_order.specs.TotalOrder.{entries}
use Rattle.order_audit.specs.Sets.{has, has_notice, is_asked, is_among, notifies}
use Rattle.order_audit.specs.Rows.{places_of, places_in, AreAt}
use Rattle.order_audit.specs.Cursors.{CursorMap, AreCursors, IsCursor, at_of, at_in, next_of}
use Rattle.order_audit.specs.Cursors.{next_in, Moves, moved}
use Rattle.order_audit.specs.declared.cursors.Cursor.{Cursor}
use Rattle.order_audit.specs.declared.walk.Walk.{Walk}
use Rattle.order_audit.specs.Walking.{is_sent, can_go, first_place, can_pass, MovesBy, Goes}
use Rattle.order_audit.specs.Walking.{Passes, AreGone, IsWalk, IsBehindAs}
use Rattle.order_audit.proofs.Places.{IsFirst, some_first, cut_at}
use Rattle.order_audit.proofs.Entries.{Persists, entries_more}
use Rattle.order_audit.proofs.Departures.{left_more, taken_one_more, among_has}
use Rattle.order_audit.proofs.Gone.{IsNoAsk, next_is, sent_is, past, taken_front, IsHeard}
use Rattle.order_audit.proofs.Gone.{free_gone, ask_gone, one_passed}

-- ---- cursors

-- a cursor that moves on is in the same log
cursor_moved : (logs : List PortLog) (port : ℕ) (o : Option Cursor) → IsCursor logs port o →
    IsCursor logs port (moved o)
cursor_moved logs port None is = is
cursor_moved logs port (Some c) is = is

module _ (logs : List PortLog) (old new : CursorMap) (port : ℕ) (moves : Moves old new port)
    (are : AreCursors logs old) where
  -- so all cursors stay in their logs
  cursors_moved : AreCursors logs new
  cursors_moved = each_number (λ p. IsCursor logs p (get nat_cmp new p)) port
      (subst (IsCursor logs port) (sym moves.own)
      (cursor_moved logs port (get nat_cmp old port) (are port)))
      (λ p other. subst (IsCursor logs p) (sym (moves.others p other)) (are p))

  -- the others stay
  cursor_stays : (p : ℕ) → (port == p) ≡ false → at_of new p ≡ at_of old p
  cursor_stays p other =
      each_number (λ k. (port == k) ≡ false → at_of new k ≡ at_of old k) port
      (λ wrong. absurd (let e : true ≡ false = sym (eq-eqb port port refl) ∙ wrong in cc))
      (λ k apart any. ap at_in (moves.others k apart)) p other

  -- where something is next
  cursor_goes : (get nat_cmp old port ≡ None → ⊥) → at_of new port ≡ suc (at_of old port)
  cursor_goes some = ap at_in moves.own ∙ by (get nat_cmp old port) some
    where
      by : (o : Option Cursor) → (o ≡ None → ⊥) → at_in (moved o) ≡ suc (at_in o)
      by None none = absurd (none refl)
      by (Some c) none = omega arith

-- ---- a packet that comes again

-- a packet that can come again left before
come_before : (w : Walk) (number visit : ℕ) (es : List Entry) →
    ((n v : ℕ) → (has w.left n v ≡ true) ↔ HasLeft n v es) →
    nat_lt visit 2 || has w.left number (visit - 1) ≡ true → HasCome number visit es
come_before w number zero es left can = tt
come_before w number (suc zero) es left can = tt
come_before w number (suc (suc v)) es left can =
    let less : suc (suc v) - 1 ≡ suc v = omega arith in
    elim (or_cases (nat_lt (suc (suc v)) 2) (has w.left number (suc (suc v) - 1)) can) [
      | inl few ↦ absurd (let small = ltb-true (suc (suc v)) 2 few in omega (arith, small))
      | inr is ↦ (left number (suc v)).0 (subst (λ n. has w.left number n ≡ true) less is)
    ]

-- ---- an entry goes

-- these packets leave in the entry at a place
abbrev IsLeaving : List Entry → ℕ → Entry → List (ℕ × ℕ) → Type 0
IsLeaving es place e visits =
    visits ≡ visits_left (step (replay (history e.queue (take place es))) e.event)

module _ (persists : Persists) (h : Histories) (old new : Walk) (place : ℕ)
    (e : Entry) (visits : List (ℕ × ℕ)) (w : IsWalk h old)
    (first : first_place old e.queue ≡ Some place) (there : slice_get h.entries place ≡ Some e)
    (can : can_go h.logs old e.event ≡ true) (leave : IsLeaving h.entries place e visits)
    (goes : Goes old new e visits) where
  -- the entry is the first that is left of its queue
  is_first : IsFirst h.entries e.queue (history e.queue (entries w.steps))
      (places_of old.rows e.queue) (w.rest e.queue) place e
  is_first = some_first h.entries e.queue (history e.queue (entries w.steps))
      (places_of old.rows e.queue) (w.rest e.queue) place e (w.rows e.queue) first there

  -- what is left then
  abbrev more : ℕ → List Entry
  more q = if e.queue == q then is_first.others else w.rest q

  -- of its own queue the others
  more_own : more e.queue ≡ is_first.others
  more_own = ap (λ b. if b then is_first.others else w.rest e.queue)
      (eq-eqb e.queue e.queue refl)

  -- of another queue all
  more_other : (q : ℕ) → (e.queue == q) ≡ false → more q ≡ w.rest q
  more_other q other = ap (λ b. if b then is_first.others else w.rest q) other

  -- it stands before what is left then
  front : w.rest e.queue ≡ e ∷ more e.queue
  front = is_first.front ∙ ap (λ xs. e ∷ xs) (sym more_own)

  -- what is next in a log is what is at its cursor
  next_at : (port : ℕ) → next_of h.logs old.cursors port
      ≡ slice_get (log_of port h.logs) (at_of old.cursors port)
  next_at port = next_is h.logs port (get nat_cmp old.cursors port) (w.cursors port)

  -- the step of an event
  abbrev step_of : ℕ → Step
  step_of at = record { entry = e; at = at }

  -- where a message is next, there is a cursor
  some_next : (port call : ℕ) (o : Option Cursor) → is_sent call (next_in h.logs o) ≡ true →
      o ≡ None → ⊥
  some_next port call o is none =
      let wrong : false ≡ true = sym (ap (λ (k : Option Cursor). is_sent call (next_in h.logs k))
      none) ∙ is in cc

  -- what is gone, by the event
  gone_by : (ev : Event) → e.event ≡ ev → can_go h.logs old ev ≡ true →
      MovesBy ev old.cursors new.cursors →
      (at : ℕ) × AreGone h.logs h.entries (w.steps ++ step_of at ∷ []) more (at_of new.cursors)
  gone_by (Arrive card bypass room) is may moves = (
    0,
    free_gone h.logs h.entries w.steps (step_of 0) persists w.rest more
        (at_of old.cursors) (at_of new.cursors) w.gone front more_other
        (subst IsNoAsk (sym is) tt) (λ port. ap (λ m. at_of m port) moves)
        (subst (λ x. IsCausedAs h.logs (entries w.steps) 0 x) (sym is)
        (come_before old card.number card.visit (entries w.steps) w.left may))
        (subst (λ x. IsBehindAs h.logs (at_of old.cursors) 0 x) (sym is) tt),
  )
  gone_by (Ask port call request) is may moves =
      let sent : IsSent call (slice_get (log_of port h.logs) (at_of old.cursors port)) =
      subst (IsSent call) (next_at port)
      (sent_is call (next_of h.logs old.cursors port) may) in (
        at_of old.cursors port,
        ask_gone h.logs h.entries w.steps (step_of (at_of old.cursors port)) persists w.rest
            more (at_of old.cursors) (at_of new.cursors) w.gone front more_other port call request
            is refl sent
            (cursor_goes h.logs old.cursors new.cursors port moves w.cursors
            (some_next port call (get nat_cmp old.cursors port) may))
            (cursor_stays h.logs old.cursors new.cursors port moves w.cursors),
      )
  gone_by (PortClosed port) is may moves =
      let over : is_none (slice_get (log_of port h.logs) (at_of old.cursors port)) ≡ true =
      subst (λ o. is_none o ≡ true) (next_at port) may in (
        0,
        free_gone h.logs h.entries w.steps (step_of 0) persists w.rest more
            (at_of old.cursors) (at_of new.cursors) w.gone front more_other
            (subst IsNoAsk (sym is) tt) (λ p. ap (λ m. at_of m p) moves)
            (subst (λ x. IsCausedAs h.logs (entries w.steps) 0 x) (sym is)
            (taken_front (log_of port h.logs) (at_of old.cursors port) (entries w.steps) over
            (w.gone.heard port)))
            (subst (λ x. IsBehindAs h.logs (at_of old.cursors) 0 x) (sym is)
            (past (log_of port h.logs) (at_of old.cursors port) over)),
      )
  gone_by (DeviceDown device) is may moves = (
    0,
    free_gone h.logs h.entries w.steps (step_of 0) persists w.rest more
        (at_of old.cursors) (at_of new.cursors) w.gone front more_other
        (subst IsNoAsk (sym is) tt) (λ port. ap (λ m. at_of m port) moves)
        (subst (λ x. IsCausedAs h.logs (entries w.steps) 0 x) (sym is) tt)
        (subst (λ x. IsBehindAs h.logs (at_of old.cursors) 0 x) (sym is) tt),
  )

  -- the cursors after the event
  cursors_by : (ev : Event) → MovesBy ev old.cursors new.cursors → AreCursors h.logs new.cursors
  cursors_by (Arrive card bypass room) moves =
      subst (AreCursors h.logs) (sym moves) w.cursors
  cursors_by (Ask port call request) moves =
      cursors_moved h.logs old.cursors new.cursors port moves w.cursors
  cursors_by (PortClosed port) moves = subst (AreCursors h.logs) (sym moves) w.cursors
  cursors_by (DeviceDown device) moves = subst (AreCursors h.logs) (sym moves) w.cursors

  -- what an equation of a set says of what is in it
  put_in : {Old Now New : Type 0} (a b c : Bool) → a ≡ b || c → (b ≡ true) ↔ Now →
      (c ≡ true) ↔ Old → New ↔ (Now ⊎ Old) → (a ≡ true) ↔ New
  put_in a b c is now before new = (
    (λ t. elim (or_cases b c (sym is ∙ t)) [
      | inl x ↦ new.1 (inl (now.0 x))
      | inr y ↦ new.1 (inr (before.0 y))
    ]),
    (λ n. elim (new.0 n) [
      | inl x ↦ is ∙ or_left b c (now.1 x)
      | inr y ↦ is ∙ or_right b c (before.1 y)
    ]),
  )

  module _ (at : ℕ) where
    now_gone : entries (w.steps ++ step_of at ∷ []) ≡ entries w.steps ++ e ∷ []
    now_gone = entries_more w.steps (step_of at)

    left_on : (number visit : ℕ) → (has new.left number visit ≡ true)
        ↔ HasLeft number visit (entries (w.steps ++ step_of at ∷ []))
    left_on number visit =
        subst (λ es. (has new.left number visit ≡ true) ↔ HasLeft number visit es) (sym now_gone)
        (put_in (has new.left number visit)
        (is_among number visit
        (visits_left (step (replay (history e.queue (entries w.steps))) e.event)))
        (has old.left number visit)
        (goes.left number visit
        ∙ ap (λ (vs : List (ℕ × ℕ)). is_among number visit vs || has old.left number visit)
        (leave ∙ ap (λ es. visits_left (step (replay es) e.event)) is_first.so_far))
        (among_has number visit
        (leaving_in (step (replay (history e.queue (entries w.steps))) e.event)))
        (w.left number visit) (left_more (entries w.steps) e number visit))

    taken_too : (queue number visit : ℕ) → (has_notice new.taken queue number visit ≡ true)
        ↔ Has number visit (taken (history queue (entries (w.steps ++ step_of at ∷ []))))
    taken_too queue number visit =
        subst (λ es. (has_notice new.taken queue number visit ≡ true)
        ↔ Has number visit (taken (history queue es))) (sym now_gone)
        (put_in (has_notice new.taken queue number visit) (notifies queue number visit e)
        (has_notice old.taken queue number visit) (goes.taken queue number visit)
        ((λ t. t), (λ t. t)) (w.taken queue number visit)
        (taken_one_more (entries w.steps) e number visit queue))

    -- the places then
    rows_on : (q : ℕ) → AreAt h.entries q (history q (entries (w.steps ++ step_of at ∷ [])))
        (places_of new.rows q) (more q)
    rows_on = subst (λ es. (q : ℕ) →
        AreAt h.entries q (history q es) (places_of new.rows q) (more q)) (sym now_gone)
        (each_number (λ q. AreAt h.entries q (history q (entries w.steps ++ e ∷ []))
        (places_of new.rows q) (more q)) e.queue
        (subst (λ xs. AreAt h.entries e.queue (history e.queue (entries w.steps ++ e ∷ []))
        (places_of new.rows e.queue) xs) (sym more_own)
        (subst (λ ps. AreAt h.entries e.queue (history e.queue (entries w.steps ++ e ∷ [])) ps
        is_first.others) (sym (goes.rows.own place is_first.places is_first.there))
        (subst (λ bs. AreAt h.entries e.queue bs is_first.places is_first.others)
        (sym (own_last (entries w.steps) e)) is_first.rest)))
        (λ q other. subst (λ xs. AreAt h.entries q (history q (entries w.steps ++ e ∷ []))
        (places_of new.rows q) xs) (sym (more_other q (not_of e.queue q other)))
        (subst (λ o. AreAt h.entries q (history q (entries w.steps ++ e ∷ [])) (places_in o)
        (w.rest q)) (sym (goes.rows.others q other))
        (subst (λ bs. AreAt h.entries q bs (places_of old.rows q) (w.rest q))
        (sym (others_last (entries w.steps) e q (not_of e.queue q other))) (w.rows q)))))

  -- all are still of their queues
  own_on : (q : ℕ) → EachIs (λ x. is_of q x ≡ true) (more q)
  own_on = each_number (λ q. EachIs (λ x. is_of q x ≡ true) (more q)) e.queue
      (subst (λ xs. EachIs (λ x. is_of e.queue x ≡ true) xs) front (w.own e.queue)).1
      (λ q other. subst (λ xs. EachIs (λ x. is_of q x ≡ true) xs)
      (sym (more_other q (not_of e.queue q other))) (w.own q))

  -- what is kept holds then
  pub entry_gone : IsWalk h new
  entry_gone =
      let gone = gone_by e.event refl can goes.cursors in record {
        steps = w.steps ++ step_of gone.0 ∷ [];
        rest = more;
        gone = gone.1;
        rows = rows_on gone.0;
        own = own_on;
        cursors = cursors_by e.event goes.cursors;
        left = left_on gone.0;
        taken = taken_too gone.0;
        asked = λ port call. ap (λ s. has s port call) goes.asked ∙ w.asked port call;
      }

-- a legal history's entry at a place is a step
pub step_there : (es : List Entry) (place : ℕ) (e : Entry) → AreLegal es →
    slice_get es place ≡ Some e → IsStep (replay (history e.queue (take place es))) e
step_there es place e legal there =
    step_at (take place es) (drop (suc place) es) e (subst AreLegal (cut_at es place e there) legal)

-- the first of a queue is an entry of it
of_queue : (h : Histories) (old : Walk) (queue place : ℕ) (e : Entry) → IsWalk h old →
    first_place old queue ≡ Some place → slice_get h.entries place ≡ Some e → e.queue ≡ queue
of_queue h old queue place e w first there =
    let f = some_first h.entries queue (history queue (entries w.steps)) (places_of old.rows queue)
    (w.rest queue) place e (w.rows queue) first there in
    eqb-true e.queue queue
    (subst (λ xs. EachIs (λ x. is_of queue x ≡ true) xs) f.front (w.own queue)).0

-- an entry of a queue goes, if it is the first that is left and can go
pub queue_gone : (persists : Persists) (h : Histories) (old new : Walk)
    (queue place : ℕ) (e : Entry) (visits : List (ℕ × ℕ)) → IsWalk h old →
    first_place old queue ≡ Some place → slice_get h.entries place ≡ Some e →
    can_go h.logs old e.event ≡ true → IsLeaving h.entries place e visits →
    Goes old new e visits → IsWalk h new
queue_gone persists h old new queue place e visits w first there can leave goes =
    entry_gone persists h old new place e visits w
    (subst (λ q. first_place old q ≡ Some place)
    (sym (of_queue h old queue place e w first there)) first) there can leave goes

-- ---- a log is gone over

-- a log that can be gone over further has an arrival that was taken
heard_by : (w : Walk) (port : ℕ) (es : List Entry) (o : Option Did) →
    ((queue number visit : ℕ) → (has_notice w.taken queue number visit ≡ true)
    ↔ Has number visit (taken (history queue es))) → can_pass w port o ≡ true → IsHeard o es
heard_by w port es None taken can = tt
heard_by w port es (Some (Received queue number visit)) taken can =
    (taken queue number visit).0 can
heard_by w port es (Some (Sent call ask answer)) taken can = tt
heard_by w port es (Some Closed) taken can = tt

-- or a message that nothing asks
none_by : (w : Walk) (port call : ℕ) (es : List Entry) (o : Option Did) →
    ((p c : ℕ) → has w.asked p c ≡ is_asked p c es) → can_pass w port o ≡ true →
    IsSent call o → is_asked port call es ≡ false
none_by w port call es None asked can is = absurd is
none_by w port call es (Some (Received queue number visit)) asked can is = absurd is
none_by w port call es (Some (Sent number ask answer)) asked can is =
    ap (λ n. is_asked port n es) is ∙ sym (asked port number)
    ∙ not-true (has w.asked port number) can
none_by w port call es (Some Closed) asked can is = absurd is

-- what is kept holds as a log is gone over by one more
pub log_passed : (h : Histories) (old new : Walk) (port : ℕ) → IsWalk h old →
    can_pass old port (next_of h.logs old.cursors port) ≡ true → Passes old new port →
    IsWalk h new
log_passed h old new port w can passes = record {
  steps = w.steps;
  rest = w.rest;
  gone = one_passed h.logs h.entries w.steps w.rest (at_of old.cursors) (at_of new.cursors) w.gone
      port
      (subst (λ o. IsHeard o (entries w.steps)) next
      (heard_by old port (entries w.steps) (next_of h.logs old.cursors port) w.taken can))
      (λ call sent. none_by old port call h.entries (next_of h.logs old.cursors port) w.asked can
      (subst (IsSent call) (sym next) sent))
      (cursor_goes h.logs old.cursors new.cursors port passes.cursors w.cursors some)
      (cursor_stays h.logs old.cursors new.cursors port passes.cursors w.cursors);
  rows = λ q. subst (λ m. AreAt h.entries q (history q (entries w.steps)) (places_of m q)
      (w.rest q)) (sym passes.rows) (w.rows q);
  own = w.own;
  cursors = cursors_moved h.logs old.cursors new.cursors port passes.cursors w.cursors;
  left = λ n v. subst (λ s. (has s n v ≡ true) ↔ HasLeft n v (entries w.steps))
      (sym passes.left) (w.left n v);
  taken = λ q n v. subst (λ s. (has_notice s q n v ≡ true)
      ↔ Has n v (taken (history q (entries w.steps)))) (sym passes.taken) (w.taken q n v);
  asked = λ p c. ap (λ s. has s p c) passes.asked ∙ w.asked p c;
}
  where
    next : next_of h.logs old.cursors port
        ≡ slice_get (log_of port h.logs) (at_of old.cursors port)
    next = next_is h.logs port (get nat_cmp old.cursors port) (w.cursors port)

    some : get nat_cmp old.cursors port ≡ None → ⊥
    some none =
        let wrong : false ≡ true = sym (ap (λ (k : Option Cursor). can_pass old port
        (next_in h.logs k)) none) ∙ can in cc

-- what holds anyway
pub on_ok : {T F P : Type 0} (r : Result T F) → P → OnOk r P
on_ok (Ok x) p = p
on_ok (Err f) p = tt
