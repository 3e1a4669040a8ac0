-- Histories that are gone over: how they begin, and how they go on.
use Rattle.std.proofs.Common.{◌≡◌, ◌≤◌, ◌<◌, ℕ, zero, suc, List, [], ◌∷◌, ◌++◌, take, refl, sym, ap}
use Rattle.std.proofs.Common.{subst, ◌∙◌, inl, inr, true, false, Option, Some, None, arith, length}
use Rattle.std.proofs.Common.{append_assoc, le_trans}
use Rattle.std.specs.Prelude.{◌==◌, ◌||◌, ◌&&◌, slice_get, is_none}
use Rattle.std.proofs.lemmas.Bool.{or_left, or_right, cases_Bool, eqb-true, eq-eqb, eqb-false}
use Rattle.std.proofs.lemmas.List.Folds.{list_any-append}
use Rattle.nfqa_msgs.specs.declared.request.Request.{Request}
use Rattle.queue_core.specs.declared.event.Event.{Event}
use Rattle.queue_core.specs.declared.event.Event.TheVariants.{Arrive, Ask, PortClosed, DeviceDown}
use Rattle.histories.specs.declared.entry.Entry.{Entry}
use Rattle.histories.specs.declared.histories.Histories.{Histories}
use Rattle.histories.specs.declared.log.Did.{Did}
use Rattle.histories.specs.declared.log.Did.TheVariants.{Received, Sent, Closed}
use Rattle.histories.specs.declared.log.PortLog.{PortLog}
use Rattle.histories.specs.History.{history, is_of}
use Rattle.histories.specs.QueueHistories.{own_last, others_last}
use Rattle.total_order.specs.Orders.{EachIs}
use Rattle.total_order.specs.Steps.{Step, Has, AreTaken, IsAsked, IsSent, log_of, taken, IsCausedAs}
use Rattle.total_order.specs.Steps.{InLogOrderAs}
use Rattle.total_order.specs.TotalOrder.{IsCaused, InLogOrder, entries}
use Rattle.order_audit.specs.Sets.{has, has_notice, is_asked, asks, asks_by}
use Rattle.order_audit.specs.Rows.{places_of, AreAt}
use Rattle.order_audit.specs.Cursors.{IsCursor, AreNew, at_in, next_in}
use Rattle.order_audit.specs.declared.cursors.Cursor.{Cursor}
use Rattle.order_audit.specs.declared.walk.Walk.{Walk}
use Rattle.order_audit.specs.Walking.{is_sent, IsBehindAs, IsBehind, IsOver, AreGone, IsWalk}
use Rattle.order_audit.proofs.Membership.{or_none}
use Rattle.order_audit.proofs.Entries.{entries_more, one_goes_on, Persists, taken_on}
use Rattle.order_audit.proofs.Lists.{each_more, each_kept, each_filter, pairs_more, caused_more}

-- ---- the beginning

-- where nothing went, all that is kept holds
pub begun : (h : Histories) (w : Walk) →
    ((queue : ℕ) →
    AreAt h.entries queue [] (places_of w.rows queue) (history queue h.entries)) →
    AreNew h.logs w.cursors →
    ((number visit : ℕ) → has w.left number visit ≡ false) →
    ((queue number visit : ℕ) → has_notice w.taken queue number visit ≡ false) →
    ((port call : ℕ) → has w.asked port call ≡ is_asked port call h.entries) → IsWalk h w
begun h w rows cursors left taken asked = record {
  steps = [];
  rest = λ queue. history queue h.entries;
  gone = record {
    same = λ queue. refl;
    caused = tt;
    kept = tt;
    heard = λ port. subst (λ n. AreTaken (take n (log_of port h.logs)) [])
        (sym (cursors.begun port)) tt;
    behind = tt;
    passed = λ port at call before is.
        absurd (let none = cursors.begun port in omega (arith, none, before));
  };
  rows = rows;
  own = λ queue. each_filter (is_of queue) h.entries;
  cursors = cursors.cursors_are;
  left = λ number visit. (
    (λ is. absurd (let wrong : true ≡ false = sym is ∙ left number visit in cc)),
    (λ is. absurd is.left),
  );
  taken = λ queue number visit. (
    (λ is. absurd (let wrong : true ≡ false = sym is ∙ taken queue number visit in cc)),
    (λ is. absurd is),
  );
  asked = asked;
}

-- ---- logs

-- what is next in a log is what is at its cursor
pub next_is : (logs : List PortLog) (port : ℕ) (o : Option Cursor) → IsCursor logs port o →
    next_in logs o ≡ slice_get (log_of port logs) (at_in o)
next_is logs port None is = sym (ap (λ ds. slice_get ds 0) is)
next_is logs port (Some c) is = ap (λ ds. slice_get ds c.at) is.0

-- a test of a message says what it is
pub sent_is : (call : ℕ) (o : Option Did) → is_sent call o ≡ true → IsSent call o
sent_is call None is = absurd (cc is)
sent_is call (Some (Received queue number visit)) is = absurd (cc is)
sent_is call (Some (Sent number ask answer)) is = sym (eqb-true number call is)
sent_is call (Some Closed) is = absurd (cc is)

-- where nothing is next, the log is over
pub past : (ds : List Did) (n : ℕ) → is_none (slice_get ds n) ≡ true → length ds ≤ n
past [] n is = omega arith
past (d ∷ ds) zero is = absurd (cc is)
past (d ∷ ds) (suc n) is = let less = past ds n is in omega (arith, less)

-- a message is within its log
pub within : (call : ℕ) (ds : List Did) (n : ℕ) → IsSent call (slice_get ds n) → n < length ds
within call [] n is = absurd is
within call (d ∷ ds) zero is = omega arith
within call (d ∷ ds) (suc n) is = let less = within call ds n is in omega (arith, less)

-- of a log that is over all was heard
pub taken_front : (ds : List Did) (n : ℕ) (es : List Entry) → is_none (slice_get ds n) ≡ true →
    AreTaken (take n ds) es → AreTaken ds es
taken_front [] n es is are = tt
taken_front (d ∷ ds) zero es is are = absurd (cc is)
taken_front (Received queue number visit ∷ ds) (suc n) es is are =
    (are.0, taken_front ds n es is are.1)
taken_front (Sent call ask answer ∷ ds) (suc n) es is are = taken_front ds n es is are
taken_front (Closed ∷ ds) (suc n) es is are = taken_front ds n es is are

-- of one more in a log the arrival was before, if it is a notice
abbrev pub IsHeard : Option Did → List Entry → Type 0
IsHeard None es = Unit {0}
IsHeard (Some (Received queue number visit)) es = Has number visit (taken (history queue es))
IsHeard (Some (Sent call ask answer)) es = Unit {0}
IsHeard (Some Closed) es = Unit {0}

-- nothing is in an empty log
none_taken : (n : ℕ) (es : List Entry) → AreTaken (take n (let ds : List Did = [] in ds)) es
none_taken zero es = tt
none_taken (suc n) es = tt

-- one more of a log was heard
heard_more : (ds : List Did) (n : ℕ) (es : List Entry) → IsHeard (slice_get ds n) es →
    AreTaken (take n ds) es → AreTaken (take (suc n) ds) es
heard_more [] n es is are = none_taken (suc n) es
heard_more (Received queue number visit ∷ ds) zero es is are = (is, tt)
heard_more (Sent call ask answer ∷ ds) zero es is are = tt
heard_more (Closed ∷ ds) zero es is are = tt
heard_more (Received queue number visit ∷ ds) (suc n) es is are =
    (are.0, heard_more ds n es is are.1)
heard_more (Sent call ask answer ∷ ds) (suc n) es is are = heard_more ds n es is are
heard_more (Closed ∷ ds) (suc n) es is are = heard_more ds n es is are

-- a message is no notice
sent_heard : (call : ℕ) (o : Option Did) (es : List Entry) → IsSent call o → IsHeard o es
sent_heard call None es is = tt
sent_heard call (Some (Received queue number visit)) es is = absurd is
sent_heard call (Some (Sent number ask answer)) es is = tt
sent_heard call (Some Closed) es is = tt

-- a message has one number
pub same_sent : (one two : ℕ) (o : Option Did) → IsSent one o → IsSent two o → one ≡ two
same_sent one two None a b = absurd a
same_sent one two (Some (Received queue number visit)) a b = absurd a
same_sent one two (Some (Sent number ask answer)) a b = a ∙ sym b
same_sent one two (Some Closed) a b = absurd a

-- ---- the order of ports

-- an event that is no request
abbrev pub IsNoAsk : Event → Type 0
IsNoAsk (Arrive card bypass room) = Unit {0}
IsNoAsk (Ask port call request) = ⊥
IsNoAsk (PortClosed port) = Unit {0}
IsNoAsk (DeviceDown device) = Unit {0}

-- what is no request may come after anything
free_order : (first : Event) (at : ℕ) (e : Event) (n : ℕ) → IsNoAsk e →
    InLogOrderAs first at e n
free_order (Arrive card bypass room) at e n free = tt
free_order (DeviceDown device) at e n free = tt
free_order (Ask port call request) at (Arrive card bypass room) n free = tt
free_order (Ask port call request) at (Ask other number asked) n free = absurd free
free_order (Ask port call request) at (PortClosed other) n free = tt
free_order (Ask port call request) at (DeviceDown device) n free = tt
free_order (PortClosed port) at (Arrive card bypass room) n free = tt
free_order (PortClosed port) at (Ask other number asked) n free = absurd free
free_order (PortClosed port) at (PortClosed other) n free = tt
free_order (PortClosed port) at (DeviceDown device) n free = tt

-- a request at its port's cursor comes after all that went
ask_order : (logs : List PortLog) (cursor : ℕ → ℕ) (port call : ℕ) (request : Request)
    (first : Event) (at : ℕ) → IsSent call (slice_get (log_of port logs) (cursor port)) →
    IsBehindAs logs cursor at first →
    InLogOrderAs first at (Ask port call request) (cursor port)
ask_order logs cursor port call request (Arrive card bypass room) at is behind = tt
ask_order logs cursor port call request (DeviceDown device) at is behind = tt
ask_order logs cursor port call request (Ask by number asked) at is behind =
    λ same. subst (λ p. at < cursor p) same behind
ask_order logs cursor port call request (PortClosed closed) at is behind =
    λ same. absurd (let less = within call (log_of port logs) (cursor port) is in
    let over = subst (λ p. length (log_of p logs) ≤ cursor p) same behind in
    omega (arith, less, over))

-- what is behind a cursor stays behind it
behind_on : (logs : List PortLog) (old new : ℕ → ℕ) → ((port : ℕ) → old port ≤ new port) →
    (at : ℕ) (e : Event) → IsBehindAs logs old at e → IsBehindAs logs new at e
behind_on logs old new on at (Arrive card bypass room) is = tt
behind_on logs old new on at (Ask port call request) is = let le = on port in omega (arith, le, is)
behind_on logs old new on at (PortClosed port) is = le_trans is (on port)
behind_on logs old new on at (DeviceDown device) is = tt

-- ---- one step more

-- an entry more asks, or one before
asked_more : (port call : ℕ) (es : List Entry) (e : Entry) →
    is_asked port call (es ++ e ∷ []) ≡ is_asked port call es || asks port call e
asked_more port call es e = list_any-append (asks port call) es (e ∷ [])
    ∙ ap (λ b. is_asked port call es || b) (or_none (asks port call e))

module _ (logs : List PortLog) (es : List Entry) (ss : List Step) (s : Step) where
  -- a message that is over stays over
  over_more : (port call : ℕ) → IsOver es ss port call → IsOver es (ss ++ s ∷ []) port call
  over_more port call (inl free) = inl free
  over_more port call (inr is) = inr (ap (is_asked port call) (entries_more ss s)
      ∙ asked_more port call (entries ss) s.entry
      ∙ or_left (is_asked port call (entries ss)) (asks port call s.entry) is)

  -- a message is over once its request goes
  over_now : (port call : ℕ) → asks port call s.entry ≡ true →
      IsOver es (ss ++ s ∷ []) port call
  over_now port call is = inr (ap (is_asked port call) (entries_more ss s)
      ∙ asked_more port call (entries ss) s.entry
      ∙ or_right (is_asked port call (entries ss)) (asks port call s.entry) is)

  module _ (persists : Persists) (rest more : ℕ → List Entry)
      (cursor further : ℕ → ℕ) (gone : AreGone logs es ss rest cursor) where
    heard_on : (port : ℕ) → AreTaken (take (cursor port) (log_of port logs)) (entries ss) →
        AreTaken (take (cursor port) (log_of port logs)) (entries (ss ++ s ∷ []))
    heard_on port are = subst (AreTaken (take (cursor port) (log_of port logs)))
        (sym (entries_more ss s))
        (taken_on persists (take (cursor port) (log_of port logs)) (entries ss)
        (entries ss ++ s.entry ∷ []) (one_goes_on (entries ss) s.entry) are)

    -- this step goes
    one_gone : rest s.entry.queue ≡ s.entry ∷ more s.entry.queue →
        ((q : ℕ) → (s.entry.queue == q) ≡ false → more q ≡ rest q) →
        ((port : ℕ) → cursor port ≤ further port) → IsCaused logs ss s →
        EachIs (λ y. InLogOrder y s) ss → IsBehind logs further s →
        ((port : ℕ) → AreTaken (take (further port) (log_of port logs))
        (entries (ss ++ s ∷ []))) →
        ((port at call : ℕ) → at < further port → IsSent call (slice_get (log_of port logs) at) →
        IsOver es (ss ++ s ∷ []) port call) → AreGone logs es (ss ++ s ∷ []) more further
    one_gone first others on caused follows behind heard passed = record {
      same = same;
      caused = caused_more (IsCaused logs) [] ss s gone.caused caused;
      kept = pairs_more InLogOrder ss s gone.kept follows;
      heard = heard;
      behind = each_more (IsBehind logs further) ss s
          (each_kept (IsBehind logs cursor) (IsBehind logs further) ss
          (λ y. behind_on logs cursor further on y.at y.entry.event) gone.behind) behind;
      passed = passed;
    }
      where
        own : history s.entry.queue es
            ≡ history s.entry.queue (entries (ss ++ s ∷ [])) ++ more s.entry.queue
        own = gone.same s.entry.queue
            ∙ ap (λ xs. history s.entry.queue (entries ss) ++ xs) first
            ∙ sym (append_assoc (history s.entry.queue (entries ss)) (s.entry ∷ [])
            (more s.entry.queue))
            ∙ ap (λ xs. xs ++ more s.entry.queue) (sym (own_last (entries ss) s.entry))
            ∙ ap (λ xs. history s.entry.queue xs ++ more s.entry.queue)
            (sym (entries_more ss s))

        same : (q : ℕ) → history q es ≡ history q (entries (ss ++ s ∷ [])) ++ more q
        same q = elim (cases_Bool (s.entry.queue == q)) [
          | inl here ↦ subst (λ k. history k es ≡ history k (entries (ss ++ s ∷ [])) ++ more k)
              (eqb-true s.entry.queue q here) own
          | inr other ↦ gone.same q
              ∙ ap (λ xs. xs ++ rest q) (sym (others_last (entries ss) s.entry q other))
              ∙ ap (λ xs. history q xs ++ rest q) (sym (entries_more ss s))
              ∙ ap (λ xs. history q (entries (ss ++ s ∷ [])) ++ xs) (sym (others q other))
        ]

    -- no request: the cursors stay
    module _ (first : rest s.entry.queue ≡ s.entry ∷ more s.entry.queue)
        (others : (q : ℕ) → (s.entry.queue == q) ≡ false → more q ≡ rest q) where
      pub free_gone : IsNoAsk s.entry.event → ((port : ℕ) → further port ≡ cursor port) →
          IsCaused logs ss s → IsBehind logs cursor s →
          AreGone logs es (ss ++ s ∷ []) more further
      free_gone free stays caused behind =
          one_gone first others (λ port. let same = stays port in omega (arith, same)) caused
          (each_kept (IsBehind logs cursor) (λ y. InLogOrder y s) ss
          (λ y b. free_order y.entry.event y.at s.entry.event s.at free) gone.behind)
          (behind_on logs cursor further (λ port. let same = stays port in omega (arith, same))
          s.at s.entry.event behind)
          (λ port. subst (λ n. AreTaken (take n (log_of port logs)) (entries (ss ++ s ∷ [])))
          (sym (stays port)) (heard_on port (gone.heard port)))
          (λ port at call before is. over_more port call (gone.passed port at call
          (let same = stays port in omega (arith, same, before)) is))

      -- a request: its port's cursor moves on
      pub ask_gone : (port call : ℕ) (request : Request) → s.entry.event ≡ Ask port call request →
          s.at ≡ cursor port → IsSent call (slice_get (log_of port logs) (cursor port)) →
          further port ≡ suc (cursor port) →
          ((p : ℕ) → (port == p) ≡ false → further p ≡ cursor p) →
          AreGone logs es (ss ++ s ∷ []) more further
      ask_gone port call request is at sent moves stays =
          one_gone first others on
          (subst (λ e. IsCausedAs logs (entries ss) s.at e) (sym is)
          (subst (λ n. IsAsked (log_of port logs) call n (entries ss)) (sym at)
          (record { sent = sent; heard = gone.heard port })))
          (each_kept (IsBehind logs cursor) (λ y. InLogOrder y s) ss
          (λ y b. subst (λ e. InLogOrderAs y.entry.event y.at e s.at) (sym is)
          (subst (λ n. InLogOrderAs y.entry.event y.at (Ask port call request) n) (sym at)
          (ask_order logs cursor port call request y.entry.event y.at sent b))) gone.behind)
          (subst (λ e. IsBehindAs logs further s.at e) (sym is)
          (omega (arith, at, moves)))
          heard passed
        where
          on : (p : ℕ) → cursor p ≤ further p
          on p = elim (cases_Bool (port == p)) [
            | inl here ↦ subst (λ k. cursor k ≤ further k) (eqb-true port p here)
                (omega (arith, moves))
            | inr other ↦ (let same = stays p other in omega (arith, same))
          ]

          heard : (p : ℕ) → AreTaken (take (further p) (log_of p logs)) (entries (ss ++ s ∷ []))
          heard p = elim (cases_Bool (port == p)) [
            | inl here ↦ subst (λ k. AreTaken (take (further k) (log_of k logs))
                (entries (ss ++ s ∷ []))) (eqb-true port p here)
                (subst (λ n. AreTaken (take n (log_of port logs)) (entries (ss ++ s ∷ [])))
                (sym moves) (heard_more (log_of port logs) (cursor port) (entries (ss ++ s ∷ []))
                (sent_heard call (slice_get (log_of port logs) (cursor port))
                (entries (ss ++ s ∷ [])) sent) (heard_on port (gone.heard port))))
            | inr other ↦
                subst (λ n. AreTaken (take n (log_of p logs)) (entries (ss ++ s ∷ [])))
                (sym (stays p other)) (heard_on p (gone.heard p))
          ]

          asks_it : asks port call s.entry ≡ true
          asks_it = ap (λ e. asks_by port call e) is
              ∙ ap (λ b. b && (call == call)) (eq-eqb port port refl) ∙ eq-eqb call call refl

          at_port : (at call' : ℕ) → at < further port →
              IsSent call' (slice_get (log_of port logs) at) → IsOver es (ss ++ s ∷ []) port call'
          at_port at call' before is' = elim (cases_Bool (at == cursor port)) [
            | inl last ↦ subst (λ c. IsOver es (ss ++ s ∷ []) port c)
                (same_sent call call' (slice_get (log_of port logs) at)
                (subst (λ n. IsSent call (slice_get (log_of port logs) n))
                (sym (eqb-true at (cursor port) last)) sent) is')
                (over_now port call asks_it)
            | inr earlier ↦ over_more port call' (gone.passed port at call'
                (let free = eqb-false at (cursor port) earlier in
                omega (arith, free, before, moves))
                is')
          ]

          passed : (p at call' : ℕ) → at < further p → IsSent call' (slice_get (log_of p logs) at) →
              IsOver es (ss ++ s ∷ []) p call'
          passed p at call' before is' = elim (cases_Bool (port == p)) [
            | inl here ↦ subst (λ k. at < further k →
                IsSent call' (slice_get (log_of k logs) at) → IsOver es (ss ++ s ∷ []) k call')
                (eqb-true port p here) (at_port at call') before is'
            | inr other ↦ over_more p call' (gone.passed p at call'
                (let same = stays p other in omega (arith, same, before)) is')
          ]

module _ (logs : List PortLog) (es : List Entry) (ss : List Step) where
  -- a port's log is gone over by one more, which is no request's message
  pub one_passed : (rest : ℕ → List Entry) (cursor further : ℕ → ℕ) →
      AreGone logs es ss rest cursor → (port : ℕ) →
      IsHeard (slice_get (log_of port logs) (cursor port)) (entries ss) →
      ((call : ℕ) → IsSent call (slice_get (log_of port logs) (cursor port)) →
      is_asked port call es ≡ false) →
      further port ≡ suc (cursor port) → ((p : ℕ) → (port == p) ≡ false → further p ≡ cursor p) →
      AreGone logs es ss rest further
  one_passed rest cursor further gone port is none moves stays = record {
    same = gone.same;
    caused = gone.caused;
    kept = gone.kept;
    heard = heard;
    behind = each_kept (IsBehind logs cursor) (IsBehind logs further) ss
        (λ y. behind_on logs cursor further on y.at y.entry.event) gone.behind;
    passed = passed;
  }
    where
      on : (p : ℕ) → cursor p ≤ further p
      on p = elim (cases_Bool (port == p)) [
        | inl here ↦ subst (λ k. cursor k ≤ further k) (eqb-true port p here)
            (omega (arith, moves))
        | inr other ↦ (let same = stays p other in omega (arith, same))
      ]

      heard : (p : ℕ) → AreTaken (take (further p) (log_of p logs)) (entries ss)
      heard p = elim (cases_Bool (port == p)) [
        | inl here ↦ subst (λ k. AreTaken (take (further k) (log_of k logs)) (entries ss))
            (eqb-true port p here)
            (subst (λ n. AreTaken (take n (log_of port logs)) (entries ss)) (sym moves)
            (heard_more (log_of port logs) (cursor port) (entries ss) is (gone.heard port)))
        | inr other ↦ subst (λ n. AreTaken (take n (log_of p logs)) (entries ss))
            (sym (stays p other)) (gone.heard p)
      ]

      at_port : (at call : ℕ) → at < further port → IsSent call (slice_get (log_of port logs) at) →
          IsOver es ss port call
      at_port at call before sent = elim (cases_Bool (at == cursor port)) [
        | inl last ↦ inl (none call (subst (λ n. IsSent call (slice_get (log_of port logs) n))
            (eqb-true at (cursor port) last) sent))
        | inr earlier ↦ gone.passed port at call
            (let free = eqb-false at (cursor port) earlier in
            omega (arith, free, before, moves)) sent
      ]

      passed : (p at call : ℕ) → at < further p → IsSent call (slice_get (log_of p logs) at) →
          IsOver es ss p call
      passed p at call before sent = elim (cases_Bool (port == p)) [
        | inl here ↦ subst (λ k. at < further k → IsSent call (slice_get (log_of k logs) at) →
            IsOver es ss k call) (eqb-true port p here) (at_port at call) before sent
        | inr other ↦ gone.passed p at call
            (let same = stays p other in omega (arith, same, before)) sent
      ]
