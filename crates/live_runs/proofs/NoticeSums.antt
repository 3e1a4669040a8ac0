-- How many notices were sent to a port stays what it was where the port has closed, where another
-- port closes and where passes meet.
use Rattle.std.proofs.Common.{◌++◌, ◌+◌, ◌<◌, ◌∙◌, ◌∷◌, ◌≡◌, Bool, List, None, Option, Some, [], ap}
use Rattle.std.proofs.Common.{append-nil, append_assoc, arith, false, length, refl, suc, sym, true}
use Rattle.std.proofs.Common.{zero, ℕ}
use Rattle.std.proofs.lemmas.Bool.{eq-eqb}
use Rattle.std.proofs.lemmas.List.Elements.{filter-append}
use Rattle.std.proofs.lemmas.List.Sums.{sum_by-cons}
use Rattle.std.specs.List.{list_any}
use Rattle.std.specs.Prelude.{◌==◌, ◌||◌, flat_map, if◌then◌else◌, nat_eq, sum_by}
use Rattle.queue_core.specs.State.{Bound}
use Rattle.queue_core.specs.declared.event.Event.TheVariants.{PortClosed}
use Rattle.histories.specs.Happenings.{closing_of, closings}
use Rattle.histories.specs.History.{history, is_of, replay, replay_from}
use Rattle.histories.specs.Letters.{letters_of_event, letters_under}
use Rattle.histories.specs.Numbers.{queue_count}
use Rattle.histories.specs.States.{entry_in, every_number, state_of}
use Rattle.histories.specs.declared.entry.Entry.{Entry}
use Rattle.histories.specs.QueueHistories.{replay_on}
use Rattle.run_parts.specs.Closing.{is_bound_to}
use Rattle.live_runs.specs.Calls.{ShutsAll}
use Rattle.live_runs.specs.ClosedPlanes.{own_taken, sent_at, sent_by_all}
use Rattle.live_runs.specs.Owners.{IsNotBy}
use Rattle.live_runs.specs.Passes.{Pass, is_pass, pass_numbers}
use Rattle.live_runs.specs.Seen.{EachIs, Ours, Seen, Shares, Theirs, all_ours, all_theirs, entries}
use Rattle.live_runs.proofs.LowerLaws.{ClosingLaws}
use Rattle.live_runs.proofs.Marks.{each_append}
use Rattle.live_runs.proofs.PortNotes.{shuts}

-- no queue is bound to the port
abbrev pub AreFree : ℕ → List Entry → Type 0
AreFree port es = (queue : ℕ) → queue < queue_count →
    is_bound_to port (state_of es queue) ≡ false

-- an entry of a queue that there is, and not the port's
abbrev pub IsAway : ℕ → Entry → Type 0
IsAway port e = IsNotBy port e × (e.queue < queue_count)

none_under : (port : ℕ) (o : Option Bound) (e : Entry) → is_bound_to port o ≡ false →
    letters_under port o e ≡ []
none_under port None e free = refl
none_under port (Some q) e free = rw free refl

free_on : ClosingLaws → (port : ℕ) (es : List Entry) (e : Entry) → IsNotBy port e →
    AreFree port es → AreFree port (es ++ e ∷ [])
free_on laws port es e other free queue below =
    ap (λ hs. is_bound_to port (replay hs)) (filter-append (is_of queue) es (e ∷ []))
    ∙ ap (is_bound_to port) (replay_on None (history queue es) (history queue (e ∷ [])))
    ∙ by (is_of queue e)
  where
    by : (c : Bool) →
        is_bound_to port (replay_from (state_of es queue) (if c then e ∷ [] else [])) ≡ false
    by true = laws.frees port (state_of es queue) e.event other (free queue below)
    by false = free queue below

none_taken : ClosingLaws → (port : ℕ) (before : List Entry) (xs : List Seen) → AreFree port before →
    EachIs (IsAway port) (entries xs) → own_taken port before xs ≡ 0
none_taken laws port before [] free are = refl
none_taken laws port before (Ours e ∷ xs) free are =
    let one : length (letters_under port (state_of before e.queue) e) ≡ 0 =
    ap length (none_under port (state_of before e.queue) e (free e.queue are.0.1)) in
    let more = none_taken laws port (before ++ e ∷ []) xs (free_on laws port before e are.0.0 free)
    are.1 in
    omega (arith, one, more)
none_taken laws port before (Theirs e ∷ xs) free are =
    none_taken laws port (before ++ e ∷ []) xs (free_on laws port before e are.0.0 free) are.1

taken_on : (port : ℕ) (before : List Entry) (xs ys : List Seen) →
    own_taken port before (xs ++ ys)
    ≡ own_taken port before xs + own_taken port (before ++ entries xs) ys
taken_on port before [] ys =
    let same : before ++ [] ≡ before = append-nil before in
    let n = own_taken port before ys in
    let so : n ≡ 0 + n = omega arith in
    so ∙ ap (λ es. 0 + own_taken port es ys) (sym same)
taken_on port before (Ours e ∷ xs) ys =
    let a = length (letters_under port (state_of before e.queue) e) in
    let more = taken_on port (before ++ e ∷ []) xs ys in
    let moved : own_taken port ((before ++ e ∷ []) ++ entries xs) ys
    ≡ own_taken port (before ++ (e ∷ entries xs)) ys =
    ap (λ es. own_taken port es ys) (append_assoc before (e ∷ []) (entries xs)) in
    omega (arith, more, moved)
taken_on port before (Theirs e ∷ xs) ys =
    taken_on port (before ++ e ∷ []) xs ys
    ∙ ap (λ es. own_taken port (before ++ e ∷ []) xs + own_taken port es ys)
    (append_assoc before (e ∷ []) (entries xs))

-- where the port's queues are gone at each place, and nobody asks for it any more
pub sent_stays : ClosingLaws → (port places : ℕ) (old new more : Shares) →
    ((k : ℕ) → new k ≡ old k ++ more k) → ((k : ℕ) → k < places → AreFree port (entries (old k))) →
    ((k : ℕ) → k < places → EachIs (IsAway port) (entries (more k))) →
    sent_at port new places ≡ sent_at port old places
sent_stays laws port zero old new more is free others = refl
sent_stays laws port (suc places) old new more is free others =
    let rest = sent_stays laws port places old new more is
    (λ k below. let n : places < suc places = omega arith in free k (omega (arith, below, n)))
    (λ k below. let n : places < suc places = omega arith in others k (omega (arith, below, n))) in
    let last : places < suc places = omega arith in
    let here : own_taken port [] (new places)
    ≡ own_taken port [] (old places) + own_taken port (entries (old places)) (more places) =
    ap (own_taken port []) (is places) ∙ taken_on port [] (old places) (more places) in
    let none = none_taken laws port (entries (old places)) (more places) (free places last)
    (others places last) in
    omega (arith, rest, here, none)

-- ---- where passes meet, and where another port closes

theirs_none : (port : ℕ) (before es : List Entry) → own_taken port before (all_theirs es) ≡ 0
theirs_none port before [] = refl
theirs_none port before (e ∷ es) = theirs_none port (before ++ e ∷ []) es

-- an entry of which no notice comes
abbrev IsUntold : Entry → Type 0
IsUntold e = (port : ℕ) (q : Bound) → letters_of_event e.queue q e.event e.reply ≡ []

untold_under : (port : ℕ) (o : Option Bound) (e : Entry) → IsUntold e →
    letters_under port o e ≡ []
untold_under port None e untold = refl
untold_under port (Some q) e untold = by (port == q.port)
  where
    by : (c : Bool) → (if c then letters_of_event e.queue q e.event e.reply else []) ≡ []
    by true = untold port q
    by false = refl

untold_none : (port : ℕ) (before es : List Entry) → EachIs IsUntold es →
    own_taken port before (all_ours es) ≡ 0
untold_none port before [] are = refl
untold_none port before (e ∷ es) are =
    let one : length (letters_under port (state_of before e.queue) e) ≡ 0 =
    ap length (untold_under port (state_of before e.queue) e are.0) in
    let more = untold_none port (before ++ e ∷ []) es are.1 in
    omega (arith, one, more)

closing_untold : (port : ℕ) (es : List Entry) (ks : List ℕ) →
    EachIs IsUntold (flat_map (λ k. closing_of port k (state_of es k)) ks)
closing_untold port es [] = tt
closing_untold port es (k ∷ ks) =
    each_append IsUntold (closing_of port k (state_of es k)) _ (one (state_of es k))
    (closing_untold port es ks)
  where
    one : (o : Option Bound) → EachIs IsUntold (closing_of port k o)
    one None = tt
    one (Some b) = by (b.port == port)
      where
        by : (c : Bool) →
            EachIs IsUntold (if c then entry_in k (Some b) (PortClosed port) ∷ [] else [])
        by true = (λ to q. refl, tt)
        by false = tt

same_at : (port places : ℕ) (old new : Shares) →
    ((k : ℕ) → k < places → own_taken port [] (new k) ≡ own_taken port [] (old k)) →
    sent_at port new places ≡ sent_at port old places
same_at port zero old new same = refl
same_at port (suc places) old new same =
    let last : places < suc places = omega arith in
    let here = same places last in
    let rest = same_at port places old new
    (λ k below. let n : places < suc places = omega arith in same k (omega (arith, below, n))) in
    omega (arith, here, rest)

pub meets_none : (port places : ℕ) (old new : Shares) (rest : ℕ → List Entry) →
    ((k : ℕ) → new k ≡ old k ++ all_theirs (rest k)) →
    sent_at port new places ≡ sent_at port old places
meets_none port places old new rest longer = same_at port places old new (λ k below.
    let none = theirs_none port (entries (old k)) (rest k) in
    let both : own_taken port [] (new k)
    ≡ own_taken port [] (old k) + own_taken port (entries (old k)) (all_theirs (rest k)) =
    ap (own_taken port []) (longer k) ∙ taken_on port [] (old k) (all_theirs (rest k)) in
    omega (arith, none, both))

pub shuts_none : (port other places : ℕ) (old new : Shares) → ShutsAll places other old new →
    sent_at port new places ≡ sent_at port old places
shuts_none port other places old new shuts = same_at port places old new (λ k below.
    let s = shuts k below in
    let front = old k ++ all_theirs s.others in
    let mine = closings other (entries (old k) ++ s.others) in
    let one : own_taken port [] (new k)
    ≡ own_taken port [] front + own_taken port (entries front) (all_ours mine) =
    ap (own_taken port []) s.turn.is ∙ taken_on port [] front (all_ours mine) in
    let two = taken_on port [] (old k) (all_theirs s.others) in
    let three = theirs_none port (entries (old k)) s.others in
    let four = untold_none port (entries front) mine
    (closing_untold other (entries (old k) ++ s.others) every_number) in
    omega (arith, one, two, three, four))

-- ---- by all passes

pub sums_same : (f g : ℕ → ℕ) (ps : List ℕ) →
    ((p : ℕ) → list_any (nat_eq p) ps ≡ true → f p ≡ g p) → sum_by f ps ≡ sum_by g ps
sums_same f g [] same = refl
sums_same f g (p ∷ ps) same =
    let one : f p ≡ g p = same p (own (p == p) (eq-eqb p p refl)) in
    let rest = sums_same f g ps (λ q is. same q (other (q == p) (list_any (nat_eq q) ps) is)) in
    sum_by-cons f p ps ∙ ap (λ n. n + sum_by f ps) one ∙ ap (λ n. g p + n) rest
    ∙ sym (sum_by-cons g p ps)
  where
    own : (c : Bool) → c ≡ true → (c || list_any (nat_eq p) ps) ≡ true
    own true is = refl
    own false wrong = absurd (cc)

    other : (c d : Bool) → d ≡ true → (c || d) ≡ true
    other true d is = refl
    other false d is = is

pub all_same : (ports : List ℕ) (port places : ℕ) (old new : ℕ → Pass) →
    ((p : ℕ) → is_pass ports p ≡ true →
    sent_at port (new p).shares places ≡ sent_at port (old p).shares places) →
    sent_by_all ports places new port ≡ sent_by_all ports places old port
all_same ports port places old new same = sums_same (λ p. sent_at port (new p).shares places)
    (λ p. sent_at port (old p).shares places) (pass_numbers ports) same
