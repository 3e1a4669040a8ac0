-- Where nothing can go any more, no entry is left of histories that have an order.
use Rattle.std.proofs.Common.{◌≡◌, ◌≤◌, ◌<◌, ℕ, zero, suc, ◌-◌, List, [], ◌∷◌, ◌++◌, refl, sym}
use Rattle.std.proofs.Common.{ap, subst, ◌∙◌, inl, inr, Bool, true, false, Option, Some, None}
use Rattle.std.proofs.Common.{arith, append_assoc, append-nil}
use Rattle.std.specs.Prelude.{◌==◌, ◌↔◌, ◌⊎◌, ◌||◌, ◌&&◌, nat_lt, slice_get, is_none, if◌then◌else◌}
use Rattle.std.specs.Prelude.{IsTrue}
use Rattle.std.specs.Ordering.{nat_cmp}
use Rattle.std.specs.BTreeMap.{get}
use Rattle.std.proofs.lemmas.Bool.{or_cases, or_left, or_right, cases_Bool, eqb-true, eq-eqb}
use Rattle.std.proofs.lemmas.Bool.{not-false, ltb-true, ltb-false}
use Rattle.std.proofs.lemmas.List.{map-append}
use Rattle.std.proofs.lemmas.List.Elements.{filter-append}
use Rattle.std.proofs.lemmas.List.Folds.{list_any-append}
use mathlib.Core.List.{IsPrefix}
use Rattle.nfqa_msgs.specs.declared.request.Request.{Request}
use Rattle.queue_core.specs.declared.event.Event.{Event}
use Rattle.queue_core.specs.declared.event.Event.TheVariants.{Arrive, Ask, PortClosed, DeviceDown}
use Rattle.histories.specs.declared.entry.Entry.{Entry}
use Rattle.histories.specs.declared.histories.Histories.{Histories}
use Rattle.histories.specs.declared.log.Did.{Did}
use Rattle.histories.specs.declared.log.Did.TheVariants.{Received, Sent, Closed}
use Rattle.histories.specs.declared.log.PortLog.{PortLog}
use Rattle.histories.specs.History.{history, is_of}
use Rattle.total_order.specs.Orders.{EachIs, Pairs, AreCaused}
use Rattle.total_order.specs.Steps.{Step, HasLeft, HasCome, IsSent, log_of, IsCausedAs}
use Rattle.total_order.specs.Steps.{InLogOrderAs}
use Rattle.total_order.specs.TotalOrder.{IsCaused, InLogOrder, entries, IsTotalOrder, HasTotalOrder}
use Rattle.order_audit.specs.Sets.{has, has_notice, is_asked, asks, asks_by}
use Rattle.order_audit.specs.Rows.{places_of, AreAt, entry_at}
use Rattle.order_audit.specs.Cursors.{Ascend, IsCursor, at_of, next_of}
use Rattle.order_audit.specs.declared.cursors.Cursor.{Cursor}
use Rattle.order_audit.specs.declared.walk.Walk.{Walk}
use Rattle.order_audit.specs.Walking.{is_sent, can_go, can_some_go, first_of, first_place, IsBehind}
use Rattle.order_audit.specs.Walking.{can_pass, IsWalk, IsStuck, Waits, Rests, IsLast}
use Rattle.order_audit.proofs.Places.{first_some, first_none}
use Rattle.order_audit.proofs.Entries.{GoOn, Persists, caused_on, taken_on}
use Rattle.order_audit.proofs.Departures.{pair_parts}
use Rattle.order_audit.proofs.Gone.{next_is, within, past, IsHeard}
use Rattle.order_audit.proofs.Lists.{each_kept, each_front, each_back, each_two, each_part}
use Rattle.order_audit.proofs.Lists.{pairs_before, pairs_after, caused_at, each_caused, cancel}
use Rattle.order_audit.proofs.Lists.{each_all}
use Rattle.order_audit.proofs.LogNumbers.{one_place, heard_at, heard_in, sent_back}
use Rattle.order_audit.proofs.Requests.{none_asked, asked_of_queue, asked_in_queue, asked_on}
use Rattle.order_audit.proofs.Requests.{IsPlaced, placed, behind_not, after_not, before_not}
use Rattle.order_audit.proofs.Requests.{closed_not}

-- ---- what waits

-- of a port without a log nothing is next
rests_all : (h : Histories) (w : Walk) (ls : List PortLog) (port : ℕ) → EachIs (Rests h w) ls →
    (log_of port ls ≡ [])
    ⊎ (can_pass w port (next_of h.logs w.cursors port) ≡ false)
rests_all h w [] port rests = inl refl
rests_all h w (l ∷ ls) port rests =
    by (port == l.port) refl (rests_all h w ls port rests.1)
  where
    by : (b : Bool) → (port == l.port) ≡ b →
        (log_of port ls ≡ []) ⊎ (can_pass w port (next_of h.logs w.cursors port) ≡ false) →
        ((if b then l.dids else log_of port ls) ≡ [])
        ⊎ (can_pass w port (next_of h.logs w.cursors port) ≡ false)
    by true same on = inr (subst
        (λ p. can_pass w p (next_of h.logs w.cursors p) ≡ false)
        (sym (eqb-true port l.port same)) rests.0)
    by false other on = on

-- a packet that left can come again
come_can : (w : Walk) (number visit : ℕ) (es : List Entry) →
    ((n v : ℕ) → (has w.left n v ≡ true) ↔ HasLeft n v es) → HasCome number visit es →
    nat_lt visit 2 || has w.left number (visit - 1) ≡ true
come_can w number zero es left come = refl
come_can w number (suc zero) es left come = refl
come_can w number (suc (suc v)) es left come =
    let less : suc (suc v) - 1 ≡ suc v = omega arith in
    or_right (nat_lt (suc (suc v)) 2) (has w.left number (suc (suc v) - 1))
    (subst (λ n. has w.left number n ≡ true) (sym less) ((left number (suc v)).1 come))

-- a test is true or false
true_not_false : {P : Type 0} (b : Bool) → b ≡ true → b ≡ false → P
true_not_false b t f = absurd (let wrong : true ≡ false = sym t ∙ f in cc)

module _ (persists : Persists) (h : Histories) (w : Walk) (k : IsWalk h w) (stuck : IsStuck h w)
    (all : List Step) (order : IsTotalOrder h all) where
  -- what is next in a port's log
  at_cursor : (port : ℕ) → next_of h.logs w.cursors port
      ≡ slice_get (log_of port h.logs) (at_of w.cursors port)
  at_cursor port = next_is h.logs port (get nat_cmp w.cursors port) (k.cursors port)

  -- no port's log can be gone over any further
  rests : (port : ℕ) →
      can_pass w port (slice_get (log_of port h.logs) (at_of w.cursors port)) ≡ false
  rests port = elim (rests_all h w h.logs port stuck.ports) [
    | inl none ↦ subst (λ ds. can_pass w port (slice_get ds (at_of w.cursors port)) ≡ false)
        (sym none) refl
    | inr is ↦ subst (λ o. can_pass w port o ≡ false) (at_cursor port) is
  ]

  -- a number is in a log once
  unique : (port call i j : ℕ) → IsSent call (slice_get (log_of port h.logs) i) →
      IsSent call (slice_get (log_of port h.logs) j) → i ≡ j
  unique port call i j is at = by (get nat_cmp w.cursors port) (k.cursors port)
    where
      by : (o : Option Cursor) → IsCursor h.logs port o → i ≡ j
      by None none = absurd (subst (λ ds. IsSent call (slice_get ds i)) none is)
      by (Some c) cursor = one_place 0 call (log_of port h.logs) i j
          (subst (Ascend 0) cursor.0 cursor.1) is at

  -- each request of the order is at its message
  all_placed : EachIs (IsPlaced h.logs) all
  all_placed = each_caused (IsCaused h.logs) (IsPlaced h.logs)
      (λ b x is. placed h.logs (entries b) x.at x.entry.event is) [] all order.caused

  -- and so is each that went
  gone_placed : EachIs (IsPlaced h.logs) k.steps
  gone_placed = each_caused (IsCaused h.logs) (IsPlaced h.logs)
      (λ b x is. placed h.logs (entries b) x.at x.entry.event is) [] k.steps k.gone.caused

  -- no request that went has the message at its port's cursor, nor one behind it
  none_gone : (port call n : ℕ) → at_of w.cursors port ≤ n →
      IsSent call (slice_get (log_of port h.logs) n) →
      is_asked port call (entries k.steps) ≡ true → ⊥
  none_gone port call n le sent = none_asked port call k.steps
      (each_two (IsPlaced h.logs) (IsBehind h.logs (at_of w.cursors))
      (λ y. asks port call y.entry ≡ true → ⊥) k.steps
      (λ y p b. behind_not h.logs port call n (unique port call) sent (at_of w.cursors) y.at
      y.entry.event le p b) gone_placed k.gone.behind)

  -- what is asked of histories is asked in the order
  in_order : (port call : ℕ) → is_asked port call h.entries ≡ true →
      is_asked port call (entries all) ≡ true
  in_order port call = asked_on port call h.entries (entries all)
      (λ q. ([], append-nil (history q h.entries) ∙ sym (order.same q)))

  module _ (front back : List Step) (x : Step) (whole : all ≡ front ++ x ∷ back)
      (on : GoOn (entries front) (entries k.steps)) where
    front_placed : EachIs (IsPlaced h.logs) front
    front_placed = each_front (IsPlaced h.logs) front (x ∷ back)
        (subst (EachIs (IsPlaced h.logs)) whole all_placed)

    back_placed : EachIs (IsPlaced h.logs) back
    back_placed = (each_back (IsPlaced h.logs) front (x ∷ back)
        (subst (EachIs (IsPlaced h.logs)) whole all_placed)).1

    caused_x : IsCausedAs h.logs (entries front) x.at x.entry.event
    caused_x = caused_at (IsCaused h.logs) [] front back x
        (subst (AreCaused (IsCaused h.logs) []) whole order.caused)

    before_x : EachIs (λ y. InLogOrder y x) front
    before_x = pairs_before InLogOrder front back x (subst (Pairs InLogOrder) whole order.kept)

    after_x : EachIs (InLogOrder x) back
    after_x = pairs_after InLogOrder front back x (subst (Pairs InLogOrder) whole order.kept)

    -- a message is asked before, now, or later
    asked_parts : (port call : ℕ) → is_asked port call (entries all) ≡ true →
        (is_asked port call (entries front) ≡ true → ⊥) → (asks port call x.entry ≡ true → ⊥) →
        (is_asked port call (entries back) ≡ true → ⊥) → ⊥
    asked_parts port call is not_before not_now not_later =
        elim (or_cases (is_asked port call (entries front))
        (is_asked port call (entries (x ∷ back)))
        (sym (list_any-append (asks port call) (entries front) (entries (x ∷ back)))
        ∙ ap (is_asked port call) (sym (map-append (λ (s : Step). s.entry) front (x ∷ back)))
        ∙ ap (λ ss. is_asked port call (entries ss)) (sym whole) ∙ is)) [
          | inl before ↦ not_before before
          | inr rest ↦ elim (or_cases (asks port call x.entry) (is_asked port call (entries back))
              rest) [
                | inl now ↦ not_now now
                | inr later ↦ not_later later
              ]
        ]

    -- a port's log doesn't wait where all that was before could go
    log_waits : (port : ℕ) (o : Option Did) →
        slice_get (log_of port h.logs) (at_of w.cursors port) ≡ o → (o ≡ None → ⊥) →
        IsHeard o (entries front) →
        ((call : ℕ) → IsSent call o →
        (asks port call x.entry ≡ true → ⊥)
        × EachIs (λ y. asks port call y.entry ≡ true → ⊥) back) →
        can_pass w port o ≡ false → ⊥
    log_waits port None there some heard later waits = some refl
    log_waits port (Some (Received queue number visit)) there some heard later waits =
        true_not_false (has_notice w.taken queue number visit)
        ((k.taken queue number visit).1
        (taken_on persists (Received queue number visit ∷ []) (entries front) (entries k.steps) on
        (heard, tt)).0) waits
    log_waits port (Some (Sent call ask answer)) there some heard later waits =
        asked_parts port call
        (in_order port call
        (sym (k.asked port call) ∙ not-false (has w.asked port call) waits))
        (λ before. none_gone port call (at_of w.cursors port) (omega arith)
        (subst (IsSent call) (sym there) refl)
        (asked_on port call (entries front) (entries k.steps) on before))
        (later call refl).0
        (none_asked port call back (later call refl).1)
    log_waits port (Some Closed) there some heard later waits = absurd (cc waits)

    -- of a request whose message is behind the cursor
    not_passed : (port call : ℕ) (request : Request) → x.entry.event ≡ Ask port call request →
        IsSent call (slice_get (log_of port h.logs) x.at) → x.at < at_of w.cursors port →
        history x.entry.queue (entries k.steps) ≡ history x.entry.queue (entries front) → ⊥
    not_passed port call request is sent less same =
        elim (k.gone.passed port x.at call less sent) [
          | inl none ↦ true_not_false (is_asked port call h.entries)
              (asked_on port call (entries all) h.entries
              (λ q. ([], append-nil (history q (entries all)) ∙ order.same q)) asked_all) none
          | inr went ↦ twice (asked_in_queue port call (entries k.steps) went)
        ]
      where
        asks_it : asks port call x.entry ≡ true
        asks_it = ap (λ e. asks_by port call e) is
            ∙ ap (λ b. b && (call == call)) (eq-eqb port port refl) ∙ eq-eqb call call refl

        asked_all : is_asked port call (entries all) ≡ true
        asked_all = ap (λ ss. is_asked port call (entries ss)) whole
            ∙ ap (is_asked port call) (map-append (λ (s : Step). s.entry) front (x ∷ back))
            ∙ list_any-append (asks port call) (entries front) (entries (x ∷ back))
            ∙ or_right (is_asked port call (entries front))
            (is_asked port call (entries (x ∷ back)))
            (or_left (asks port call x.entry) (is_asked port call (entries back)) asks_it)

        not_front : is_asked port call (entries front) ≡ true → ⊥
        not_front = none_asked port call front
            (each_two (IsPlaced h.logs) (λ y. InLogOrder y x)
            (λ y. asks port call y.entry ≡ true → ⊥) front
            (λ y p o. before_not h.logs port call x.at (unique port call) sent call y.at request
            y.entry.event p
            (subst (λ e. InLogOrderAs y.entry.event y.at e x.at) is o)) front_placed before_x)

        not_back : is_asked port call (entries back) ≡ true → ⊥
        not_back = none_asked port call back
            (each_two (IsPlaced h.logs) (InLogOrder x)
            (λ y. asks port call y.entry ≡ true → ⊥) back
            (λ y p o. after_not h.logs port call x.at (unique port call) sent call y.at request
            x.at y.entry.event (omega arith) p
            (subst (λ e. InLogOrderAs e x.at y.entry.event y.at) is o)) back_placed after_x)

        twice : (queue : ℕ) × (is_asked port call (history queue (entries k.steps)) ≡ true) → ⊥
        twice (queue, asked) = elim (cases_Bool (x.entry.queue == queue)) [
          | inl own ↦ not_front (asked_of_queue port call queue (entries front)
              (subst (λ xs. is_asked port call xs ≡ true)
              (subst (λ q. history q (entries k.steps) ≡ history q (entries front))
              (eqb-true x.entry.queue queue own) same) asked))
          | inr other ↦
              elim (or_cases (is_asked port call (history queue (entries front)))
              (is_asked port call (history queue (entries back)))
              (sym (list_any-append (asks port call) (history queue (entries front))
              (history queue (entries back)))
              ∙ ap (is_asked port call) (sym (apart queue other))
              ∙ ap (is_asked port call) (order.same queue ∙ k.gone.same queue)
              ∙ list_any-append (asks port call) (history queue (entries k.steps)) (k.rest queue)
              ∙ or_left (is_asked port call (history queue (entries k.steps)))
              (is_asked port call (k.rest queue)) asked)) [
                | inl before ↦ not_front (asked_of_queue port call queue (entries front) before)
                | inr later ↦ not_back (asked_of_queue port call queue (entries back) later)
              ]
        ]
          where
            apart : (queue : ℕ) → (x.entry.queue == queue) ≡ false →
                history queue (entries all)
                ≡ history queue (entries front) ++ history queue (entries back)
            apart queue other = ap (λ ss. history queue (entries ss)) whole
                ∙ ap (history queue) (map-append (λ (s : Step). s.entry) front (x ∷ back))
                ∙ filter-append (is_of queue) (entries front) (entries (x ∷ back))
                ∙ ap (λ b. history queue (entries front)
                ++ (if b then x.entry ∷ history queue (entries back)
                else history queue (entries back))) other

    -- what is the first that is left could go
    could_go : (e : Event) → x.entry.event ≡ e →
        history x.entry.queue (entries k.steps) ≡ history x.entry.queue (entries front) →
        IsCausedAs h.logs (entries k.steps) x.at e → can_go h.logs w e ≡ false → ⊥
    could_go (Arrive card bypass room) is same caused waits =
        true_not_false (can_go h.logs w (Arrive card bypass room))
        (come_can w card.number card.visit (entries k.steps) k.left caused) waits
    could_go (DeviceDown device) is same caused waits = absurd (cc waits)
    could_go (Ask port call request) is same caused waits =
        by (nat_lt x.at (at_of w.cursors port)) (nat_lt (at_of w.cursors port) x.at) refl refl
      where
        some : at_of w.cursors port < x.at →
            slice_get (log_of port h.logs) (at_of w.cursors port) ≡ None → ⊥
        some ahead none =
            let short = past (log_of port h.logs) (at_of w.cursors port) (ap is_none none) in
            let long = within call (log_of port h.logs) x.at caused.sent in
            omega (arith, short, long, ahead)

        by : (b c : Bool) → nat_lt x.at (at_of w.cursors port) ≡ b →
            nat_lt (at_of w.cursors port) x.at ≡ c → ⊥
        by true c less more = not_passed port call request is caused.sent
            (ltb-true x.at (at_of w.cursors port) less) same
        by false true less more =
            let ahead = ltb-true (at_of w.cursors port) x.at more in
            log_waits port (slice_get (log_of port h.logs) (at_of w.cursors port)) refl
            (some ahead)
            (heard_at (log_of port h.logs) x.at (at_of w.cursors port) (entries front) ahead
            (subst (λ e. IsCausedAs h.logs (entries front) x.at e) is caused_x).heard)
            (λ number sent. (
              (λ mine. let parts = pair_parts port number (port, call)
                  (sym (ap (λ e. asks_by port number e) is) ∙ mine) in
                  let same_place = unique port call x.at (at_of w.cursors port) caused.sent
                  (subst (λ c. IsSent c (slice_get (log_of port h.logs) (at_of w.cursors port)))
                  (sym parts.1) sent) in omega (arith, ahead, same_place)),
              each_two (IsPlaced h.logs) (InLogOrder x)
                  (λ y. asks port number y.entry ≡ true → ⊥) back
                  (λ y p o. after_not h.logs port number (at_of w.cursors port)
                  (unique port number) sent call y.at request x.at y.entry.event
                  (omega (arith, ahead)) p
                  (subst (λ e. InLogOrderAs e x.at y.entry.event y.at) is o)) back_placed after_x,
            ))
            (rests port)
        by false false less more =
            let low = ltb-false x.at (at_of w.cursors port) less in
            let high = ltb-false (at_of w.cursors port) x.at more in
            let here : x.at ≡ at_of w.cursors port = omega (arith, low, high) in
            true_not_false (is_sent call (next_of h.logs w.cursors port))
            (ap (is_sent call) (at_cursor port)
            ∙ sent_back call (slice_get (log_of port h.logs) (at_of w.cursors port))
            (subst (λ n. IsSent call (slice_get (log_of port h.logs) n)) here caused.sent))
            waits
    could_go (PortClosed port) is same caused waits =
        log_waits port (slice_get (log_of port h.logs) (at_of w.cursors port)) refl
        (λ none. true_not_false (is_none (next_of h.logs w.cursors port))
        (ap is_none (at_cursor port ∙ none)) waits)
        (heard_in (log_of port h.logs) (at_of w.cursors port) (entries front)
        (subst (λ e. IsCausedAs h.logs (entries front) x.at e) is caused_x))
        (λ number sent. (
          (λ mine. absurd (let e : false ≡ true = sym (ap (λ e. asks_by port number e) is) ∙ mine
              in cc)),
          each_kept (InLogOrder x) (λ y. asks port number y.entry ≡ true → ⊥) back
              (λ y o. closed_not port number x.at y.at y.entry.event
              (subst (λ e. InLogOrderAs e x.at y.entry.event y.at) is o)) after_x,
        ))
        (rests port)

    -- so the first that is left of a queue isn't the next of the order
    blocked : (others : List Entry) → k.rest x.entry.queue ≡ x.entry ∷ others →
        history x.entry.queue (entries k.steps) ≡ history x.entry.queue (entries front) → ⊥
    blocked others first same =
        could_go x.entry.event refl same
        (caused_on persists h.logs x (entries front) (entries k.steps) on caused_x)
        (subst (λ o. can_some_go h.logs w o ≡ false)
        (first_some h.entries x.entry.queue (history x.entry.queue (entries k.steps))
        (places_of w.rows x.entry.queue) x.entry others
        (subst (λ xs. AreAt h.entries x.entry.queue (history x.entry.queue (entries k.steps))
        (places_of w.rows x.entry.queue) xs) first (k.rows x.entry.queue))) waits)
      where
        waits : Waits h w x.entry
        waits = (each_back (Waits h w) (history x.entry.queue (entries k.steps)) (x.entry ∷ others)
            (subst (EachIs (Waits h w))
            (k.gone.same x.entry.queue
            ∙ ap (λ xs. history x.entry.queue (entries k.steps) ++ xs) first)
            (each_part (Waits h w) (is_of x.entry.queue) h.entries stuck.queues))).0

  -- ---- the order is gone over

  -- where all of the order went, no entry is left
  none_left : (front : List Step) → all ≡ front → GoOn (entries front) (entries k.steps) →
      (q : ℕ) → k.rest q ≡ []
  none_left front whole on q =
      let all_at : history q (entries front) ++ ((on q).0 ++ k.rest q)
      ≡ history q (entries front) ++ [] =
      sym (append_assoc (history q (entries front)) (on q).0 (k.rest q))
      ∙ ap (λ xs. xs ++ k.rest q) (on q).1 ∙ sym (k.gone.same q) ∙ sym (order.same q)
      ∙ ap (λ ss. history q (entries ss)) whole ∙ sym (append-nil (history q (entries front)))
      in no_back (on q).0 (k.rest q)
      (cancel (history q (entries front)) ((on q).0 ++ k.rest q) [] all_at)
    where
      no_back : (xs ys : List Entry) → xs ++ ys ≡ [] → ys ≡ []
      no_back [] ys e = e
      no_back (x ∷ xs) ys e = absurd (cc e)

  -- step by step all of the order went
  go_through : (front back : List Step) → all ≡ front ++ back →
      GoOn (entries front) (entries k.steps) → (q : ℕ) → k.rest q ≡ []
  go_through front [] whole on = none_left front (whole ∙ append-nil front) on
  go_through front (x ∷ back) whole on =
      by (on x.entry.queue).0 (on x.entry.queue).1
      (go_through (front ++ x ∷ []) back (whole ∙ sym (append_assoc front (x ∷ []) back)))
    where
      front_at : (q : ℕ) → history q (entries all)
          ≡ history q (entries front) ++ history q (entries (x ∷ back))
      front_at q = ap (λ ss. history q (entries ss)) whole
          ∙ ap (history q) (map-append (λ (s : Step). s.entry) front (x ∷ back))
          ∙ filter-append (is_of q) (entries front) (entries (x ∷ back))

      own : history x.entry.queue (entries (x ∷ back))
          ≡ x.entry ∷ history x.entry.queue (entries back)
      own = ap (λ b. if b then x.entry ∷ history x.entry.queue (entries back)
          else history x.entry.queue (entries back)) (eq-eqb x.entry.queue x.entry.queue refl)

      left_there : (zs : List Entry) →
          history x.entry.queue (entries front) ++ zs
          ≡ history x.entry.queue (entries k.steps) →
          x.entry ∷ history x.entry.queue (entries back) ≡ zs ++ k.rest x.entry.queue
      left_there zs e = cancel (history x.entry.queue (entries front))
          (x.entry ∷ history x.entry.queue (entries back)) (zs ++ k.rest x.entry.queue)
          (ap (λ xs. history x.entry.queue (entries front) ++ xs) (sym own)
          ∙ sym (front_at x.entry.queue) ∙ order.same x.entry.queue ∙ k.gone.same x.entry.queue
          ∙ ap (λ xs. xs ++ k.rest x.entry.queue) (sym e)
          ∙ append_assoc (history x.entry.queue (entries front)) zs (k.rest x.entry.queue))

      by : (zs : List Entry) →
          history x.entry.queue (entries front) ++ zs
          ≡ history x.entry.queue (entries k.steps) →
          (GoOn (entries (front ++ x ∷ [])) (entries k.steps) → (q : ℕ) → k.rest q ≡ []) →
          (q : ℕ) → k.rest q ≡ []
      by [] e further = absurd (blocked front back x whole on
          (history x.entry.queue (entries back)) (sym (left_there [] e))
          (sym e ∙ append-nil (history x.entry.queue (entries front))))
      by (z ∷ zs) e further = further on_too
        where
          first : x.entry ≡ z
          first = cc (left_there (z ∷ zs) e)

          on_too : GoOn (entries (front ++ x ∷ [])) (entries k.steps)
          on_too q = subst (λ xs. IsPrefix xs (history q (entries k.steps)))
              (sym (ap (history q) (map-append (λ (s : Step). s.entry) front (x ∷ []))
              ∙ filter-append (is_of q) (entries front) (entries (x ∷ []))))
              (elim (cases_Bool (x.entry.queue == q)) [
                | inl here ↦ subst (λ p. IsPrefix (history p (entries front)
                    ++ history p (entries (x ∷ []))) (history p (entries k.steps)))
                    (eqb-true x.entry.queue q here) (
                      zs,
                      append_assoc (history x.entry.queue (entries front))
                          (history x.entry.queue (entries (x ∷ []))) zs
                          ∙ ap (λ xs. history x.entry.queue (entries front) ++ (xs ++ zs))
                          (ap (λ b. if b then x.entry ∷ [] else [])
                          (eq-eqb x.entry.queue x.entry.queue refl))
                          ∙ ap (λ y. history x.entry.queue (entries front) ++ y ∷ zs) first ∙ e,
                    )
                | inr other ↦ subst (λ xs. IsPrefix (history q (entries front) ++ xs)
                    (history q (entries k.steps)))
                    (sym (ap (λ b. if b then x.entry ∷ [] else []) other))
                    (subst (λ xs. IsPrefix xs (history q (entries k.steps)))
                    (sym (append-nil (history q (entries front)))) (on q))
              ])

  -- no entry is left
  all_gone : (q : ℕ) → k.rest q ≡ []
  all_gone = go_through [] all refl (λ q. (history q (entries k.steps), refl))

-- ---- the answer

module _ (h : Histories) (w : Walk) (k : IsWalk h w) where
  -- where no queue has a first entry, no entry is left
  whole_rest : EachIs (IsLast w) h.entries → (q : ℕ) → k.rest q ≡ []
  whole_rest last q = by (k.rest q) refl
    where
      by : (rs : List Entry) → k.rest q ≡ rs → rs ≡ []
      by [] e = refl
      by (r ∷ rs) e =
          let at : r.queue ≡ q = eqb-true r.queue q
          (subst (EachIs (λ x. is_of q x ≡ true)) e (k.own q)).0 in
          let none : first_place w r.queue ≡ None =
          (each_back (IsLast w) (history q (entries k.steps)) (r ∷ rs)
          (subst (EachIs (IsLast w))
          (k.gone.same q ∙ ap (λ xs. history q (entries k.steps) ++ xs) e)
          (each_part (IsLast w) (is_of q) h.entries last))).0 in
          let some : first_of h.entries w q ≡ Some r =
          first_some h.entries q (history q (entries k.steps)) (places_of w.rows q) r rs
          (subst (λ xs. AreAt h.entries q (history q (entries k.steps)) (places_of w.rows q) xs) e
          (k.rows q)) in
          absurd (let wrong : Some r ≡ None = sym some
          ∙ ap (λ p. first_of h.entries w p) (sym at) ∙ ap (entry_at h.entries) none in cc)

  -- where no entry is left, what went is an order
  ordered : ((q : ℕ) → k.rest q ≡ []) → HasTotalOrder h
  ordered none = (
    k.steps,
    record {
      same = λ q. sym (k.gone.same q ∙ ap (λ xs. history q (entries k.steps) ++ xs) (none q)
          ∙ append-nil (history q (entries k.steps)));
      caused = k.gone.caused;
      kept = k.gone.kept;
    },
  )

  -- where no entry is left, no queue has a first entry
  all_last : ((q : ℕ) → k.rest q ≡ []) → EachIs (IsLast w) h.entries
  all_last none = each_all (IsLast w) h.entries
      (λ e. first_none h.entries e.queue (history e.queue (entries k.steps))
      (places_of w.rows e.queue)
      (subst (λ xs. AreAt h.entries e.queue (history e.queue (entries k.steps))
      (places_of w.rows e.queue) xs) (none e.queue) (k.rows e.queue)))

-- where nothing can go any more, all has gone exactly if there is an order
pub decided : (persists : Persists) (h : Histories) (w : Walk) (b : Bool) → IsWalk h w →
    IsStuck h w → IsTrue b ↔ EachIs (IsLast w) h.entries → IsTrue b ↔ HasTotalOrder h
decided persists h w b k stuck is = (
  (λ t. ordered h w k (whole_rest h w k (is.0 t))),
  (λ order. is.1 (all_last h w k (all_gone persists h w k stuck order.0 order.1))),
)
