-- What ports heard of all places' lists.
use Rattle.std.proofs.Common.{◌≡◌, ◌<◌, ◌≤◌, ◌+◌, ℕ, zero, suc, List, [], ◌∷◌, ◌++◌}
use Rattle.std.proofs.Common.{length, refl, sym, ap, ◌∙◌, subst, arith, inl, inr}
use Rattle.std.proofs.Common.{append-nil, map, Bool, true, false, cond}
use Rattle.std.specs.Prelude.{slice_get, Option, Some, None, sum_by, IfSome, flat_map, nat_eq}
use Rattle.std.specs.Prelude.{nat_lt, filter, count_by, ◌==◌}
use Rattle.std.specs.List.{AllZip}
use mathlib.Core.List.{IsPrefix}
use Rattle.std.proofs.lemmas.List.Elements.{filter-append}
use Rattle.std.proofs.lemmas.List.{length-append}
use Rattle.std.proofs.lemmas.List.Sums.{sum_by-cons}
use Rattle.std.proofs.lemmas.Bool.{cases_Bool, eqb-true, eqb-false, eq-eqb}
use Rattle.std.proofs.lemmas.Bool.Decides.{nat_tests}
use Rattle.packet_entry.specs.declared.letter.Letter.{Letter}
use Rattle.queue_core.specs.State.{Bound}
use Rattle.queue_core.specs.declared.event.Event.{Event}
use Rattle.queue_core.specs.declared.event.Reply.{Reply}
use Rattle.mailbox.specs.declared.view.Post.{Post}
use Rattle.mailbox.specs.Roles.{In}
use Rattle.mailbox.specs.Views.{ReceiverView, letters_of, letters_in, numbers, HasAllSenders}
use Rattle.mailbox.specs.Views as views
use Rattle.turn_lock.specs.Views.{HasSeenOwn}
use Rattle.histories.specs.declared.entry.Entry.{Entry}
use Rattle.histories.specs.History.{history, is_of, replay}
use Rattle.histories.specs.States.{state_of}
use Rattle.place_history.specs.PlaceState.{AreHere}
use Rattle.locked_place.specs.Points.{Point, points, points_after, point_after}
use Rattle.histories.specs.Letters.{letters_under, letters_of_event}
use Rattle.histories.specs.Letters.{is_from}
use Rattle.histories.specs.Places.{place_for}
use Rattle.locked_place.specs.Notices.{letters_to, letters_at, lacking, lacks_at}
use Rattle.place_rows.specs.declared.ending.PortReceiver.{PortReceiver}
use Rattle.place_rows.specs.Lists.{Every, AllFrom, flat}
use Rattle.place_rows.specs.Rows.{Known}
use Rattle.place_rows.specs.Shares.{notices_at, sent_in_all}
use Rattle.place_rows.specs.Ending.{IsListOf}
use Rattle.place_rows.specs.Hearing.{Hears, HearsAs, Among, IsHeard, IsHeardAll, HasHeard}
use Rattle.place_rows.specs.Hearing.{HasHeardOf, letters_heard_of}
use Rattle.place_rows.proofs.EntryLetters.{event_taken}
use Rattle.place_rows.proofs.Lists.{every_both, every_in_front, all_from_mapped}
use Rattle.place_rows.proofs.ItemSums.{points_longer, points_long}
use Rattle.place_rows.proofs.PlaceLists.{at_from, every_of, flat_at}
use Rattle.place_rows.proofs.RowSums.{all_told}

-- ---- senders by number

in_numbers : (k : ℕ) (x : List Letter) (known : List (ℕ × List Letter)) → Among (k, x) known → In k
    (numbers known)
in_numbers k x [] h = absurd h
in_numbers k x (y ∷ known) (inl e) = inl (ap (λ (z : ℕ × List Letter). z.0) e)
in_numbers k x (y ∷ known) (inr h) = inr (in_numbers k x known h)

whole_at : (received : List Post) (k : ℕ) (x : List Letter) (known : List (ℕ × List Letter)) →
    views.All (λ s. letters_of s.0 received ≡ s.1) known → Among (k, x) known → letters_of k
    received ≡ x
whole_at received k x [] all h = absurd h
whole_at received k x (y ∷ known) all (inl e) =
    subst (λ (z : ℕ × List Letter). letters_of z.0 received ≡ z.1) (sym e) all.0
whole_at received k x (y ∷ known) all (inr h) = whole_at received k x known all.1 h

of_all : (Q : ℕ × List Letter → Type 0) (k : ℕ) (x : List Letter) (known : List (ℕ × List Letter)) →
    views.All Q known → Among (k, x) known → Q (k, x)
of_all Q k x [] all h = absurd h
of_all Q k x (y ∷ known) all (inl e) = subst Q (sym e) all.0
of_all Q k x (y ∷ known) all (inr h) = of_all Q k x known all.1 h

pub has_all : (places : ℕ) (lists : List (List Entry)) (port : ℕ) (r : ReceiverView) → 0 < places →
    length lists ≡ places → Hears places 0 lists port r → HasAllSenders r
has_all places lists port r some long hears =
    let made : r.made ≡ places = hears.made refl (omega (arith, some, long)) in
    let one : (k : ℕ) → k < places → In k (numbers r.joined) =
    λ k few. (let at = at_from (λ j l. Among (j, letters_to port l) r.joined) 0 k lists
    hears.joined (omega (arith, few, long)) in
    subst (λ j. In j (numbers r.joined)) (omega arith) (in_numbers (0 + k) (letters_to port at.0)
    r.joined at.1.1)) in
    (one 0 some, λ k few. one k (omega (arith, few, made)))

both_from : {X : Type 0} (P Q : ℕ → X → Type 0) (n : ℕ) (xs : List X) → AllFrom P n xs →
    AllFrom Q n xs → AllFrom (λ k x. P k x × Q k x) n xs
both_from P Q n [] one two = tt
both_from P Q n (x ∷ xs) one two = ((one.0, two.0), both_from P Q (n + 1) xs one.1 two.1)

-- each letter is of a sender below n, where none is of another
pub all_within : (n : ℕ) (ps : List Post) → ((k : ℕ) → n ≤ k → letters_of k ps ≡ []) →
    Every (λ (p : Post). p.from < n) ps
all_within n [] none = tt
all_within n (p ∷ ps) none = (here, all_within n ps tail)
  where
    first : letters_of p.from (p ∷ ps) ≡ p.letter ∷ letters_of p.from ps
    first = rw (eq-eqb p.from p.from refl) refl

    here : p.from < n
    here =
        elim (cases_Bool (nat_lt p.from n)) [
          | inl h ↦ grind (arith, nat_tests)
          | inr h ↦ absurd (cc (sym first ∙ none p.from (grind (arith, nat_tests))))
        ]

    tail : (k : ℕ) → n ≤ k → letters_of k ps ≡ []
    tail k most =
        elim (cases_Bool (nat_eq p.from k)) [
          | inl h ↦ absurd (cc (rw h at (none k most)))
          | inr h ↦ rw h at (none k most)
        ]

-- ---- letters of a queue
-- each letter's queue is at the place of its sender
placed_posts : (places : ℕ) (ps : List Post) → Every (λ (p : Post). p.from < places) ps →
    ((k : ℕ) → k < places → Every (λ (l : Letter). place_for l.queue places ≡ k) (letters_of k ps))
    →
    Every (λ (p : Post). place_for p.letter.queue places ≡ p.from) ps
placed_posts places [] all each = tt
placed_posts places (p ∷ ps) all each = (
  (subst (Every (λ (l : Letter). place_for l.queue places ≡ p.from)) first (each p.from all.0)).0,
  placed_posts places ps all.1 (λ k few. tail k few),
)
  where
    first : letters_of p.from (p ∷ ps) ≡ p.letter ∷ letters_of p.from ps
    first = rw (eq-eqb p.from p.from refl) refl

    tail : (k : ℕ) → k < places → Every (λ (l : Letter). place_for l.queue places ≡ k)
        (letters_of k ps)
    tail k few =
        elim (cases_Bool (nat_eq p.from k)) [
          | inl h ↦ (rw h at (each k few)).1
          | inr h ↦ rw h at (each k few)
        ]

of_queue : (places queue : ℕ) (ps : List Post) →
    Every (λ (p : Post). place_for p.letter.queue places ≡ p.from) ps →
    filter (is_from queue) (map (λ (p : Post). p.letter) ps)
    ≡ filter (is_from queue) (letters_of (place_for queue places) ps)
of_queue places queue [] all = refl
of_queue places queue (p ∷ ps) all =
    elim (cases_Bool (nat_eq p.from (place_for queue places))) [
      | inl h ↦ elim (cases_Bool (is_from queue p.letter)) [
        | inl own ↦ rw (h, own) (ap (λ (l : List Letter). p.letter ∷ l) (of_queue places queue ps
            all.1))
        | inr other ↦ rw (h, other) (of_queue places queue ps all.1)
      ]
      | inr h ↦ elim (cases_Bool (is_from queue p.letter)) [
        | inl own ↦ absurd (eqb-false p.from (place_for queue places) h
            (sym all.0 ∙ ap (λ q. place_for q places) (eqb-true p.letter.queue queue own)))
        | inr other ↦ rw (h, other) (of_queue places queue ps all.1)
      ]
    ]

-- ---- letters of a list

event_from : (P : Letter → Type 0) (queue : ℕ) (q : Bound) (e : Event) (r : Reply) →
    ((l : Letter) → l.queue ≡ queue → P l) → Every P (letters_of_event queue q e r)
event_from P queue q e r f = event_taken P queue q e r (λ l own has. f l own)

-- the letters of an entry are of its queue
under_from : (P : Letter → Type 0) (port : ℕ) (o : Option Bound) (e : Entry) →
    ((l : Letter) → l.queue ≡ e.queue → P l) → Every P (letters_under port o e)
under_from P port None e f = tt
under_from P port (Some q) e f =
    elim (cases_Bool (port == q.port)) [
      | inl h ↦ rw h (event_from P e.queue q e.event e.reply f)
      | inr h ↦ rw h tt
    ]

letters_here : (places k port : ℕ) (before es : List Entry) →
    Every (λ (e : Entry). place_for e.queue places ≡ k) es →
    Every (λ (l : Letter). place_for l.queue places ≡ k)
    (flat_map (letters_at port) (points_after before
    es))
letters_here places k port before [] all = tt
letters_here places k port before (e ∷ es) all =
    every_both (λ (l : Letter). place_for l.queue places ≡ k)
    (letters_at port (point_after before e))
    (flat_map (letters_at port) (points_after (before ++ e ∷ []) es))
    (under_from (λ (l : Letter). place_for l.queue places ≡ k) port (state_of before e.queue) e
    (λ l is. ap (λ q. place_for q places) is ∙ all.0))
    (letters_here places k port (before ++ e ∷ []) es all.1)

-- ---- a queue's letters are those of its history
twice : (queue : ℕ) (es : List Entry) → history queue (history queue es) ≡ history queue es
twice queue [] = refl
twice queue (d ∷ es) =
    elim (cases_Bool (is_of queue d)) [
      | inl h ↦ rw h (rw h (ap (λ (l : List Entry). d ∷ l) (twice queue es)))
      | inr h ↦ rw h (twice queue es)
    ]

pub pushed : (queue : ℕ) (es : List Entry) (e : Entry) → is_of queue e ≡ true →
    history queue (es ++ e ∷ []) ≡ history queue es ++ e ∷ []
pushed queue es e own = filter-append (is_of queue) es (e ∷ []) ∙ rw own refl

passed : (queue : ℕ) (es : List Entry) (e : Entry) → is_of queue e ≡ false →
    history queue (es ++ e ∷ []) ≡ history queue es
passed queue es e other =
    filter-append (is_of queue) es (e ∷ []) ∙ rw other (append-nil (history queue es))

same_point : (queue : ℕ) (before : List Entry) (e : Entry) → is_of queue e ≡ true →
    point_after before e ≡ point_after (history queue before) e
same_point queue before e own =
    let is : e.queue ≡ queue = eqb-true e.queue queue own in
    ap (λ (h : List Entry). record { entry = e; state = replay h })
    (sym (twice e.queue before) ∙ ap (λ n. history e.queue (history n before)) is)

keep_all : (queue : ℕ) (ls : List Letter) → Every (λ (l : Letter). l.queue ≡ queue) ls →
    filter (is_from queue) ls ≡ ls
keep_all queue [] all = refl
keep_all queue (l ∷ ls) all =
    rw (eq-eqb l.queue queue all.0) (ap (λ (xs : List Letter). l ∷ xs) (keep_all queue ls all.1))

keep_none : (queue other : ℕ) (ls : List Letter) → Every (λ (l : Letter). l.queue ≡ other) ls →
    (other == queue) ≡ false → filter (is_from queue) ls ≡ []
keep_none queue other [] all differ = refl
keep_none queue other (l ∷ ls) all differ =
    rw (ap (λ q. q == queue) all.0 ∙ differ) (keep_none queue other ls all.1 differ)

module _ (queue port : ℕ) where
  letters_point : (before : List Entry) (e : Entry) →
      Every (λ (l : Letter). l.queue ≡ e.queue) (letters_at port (point_after before e))
  letters_point before e =
      under_from (λ (l : Letter). l.queue ≡ e.queue) port (state_of before e.queue) e (λ l is. is)

  letters_part : (before es : List Entry) →
      filter (is_from queue) (flat_map (letters_at port) (points_after before es))
      ≡ flat_map (letters_at port) (points_after (history queue before) (history queue es))
  letters_part before [] = refl
  letters_part before (e ∷ es) =
      let here = letters_at port (point_after before e) in
      let rest = flat_map (letters_at port) (points_after (before ++ e ∷ []) es) in
      filter-append (is_from queue) here rest
      ∙ elim (cases_Bool (is_of queue e)) [
        | inl own ↦ rw own
            (ap (λ (l : List Letter). l ++ filter (is_from queue) rest)
            (keep_all queue here (subst (λ n. Every (λ (l : Letter). l.queue ≡ n) here)
            (eqb-true e.queue queue own) (letters_point before e))
            ∙ ap (letters_at port) (same_point queue before e own))
            ∙ ap (λ (l : List Letter). letters_at port (point_after (history queue before) e) ++ l)
            (letters_part (before ++ e ∷ []) es
            ∙ ap (λ (h : List Entry). flat_map (letters_at port) (points_after h (history queue
            es)))
            (pushed queue before e own)))
        | inr other ↦ rw other
            (ap (λ (l : List Letter). l ++ filter (is_from queue) rest)
            (keep_none queue e.queue here (letters_point before e) other)
            ∙ letters_part (before ++ e ∷ []) es
            ∙ ap (λ (h : List Entry). flat_map (letters_at port) (points_after h (history queue
            es)))
            (passed queue before e other))
      ]

  abbrev one_lack : Point → ℕ
  one_lack p = cond (lacks_at port p) 1 0

  lacking_part : (before es : List Entry) →
      count_by (lacks_at port) (points_after (history queue before) (history queue es))
      ≤ count_by (lacks_at port) (points_after before es)
  lacking_part before [] = omega arith
  lacking_part before (e ∷ es) =
      elim (cases_Bool (is_of queue e)) [
        | inl own ↦ rw own
            (let rest = lacking_part (before ++ e ∷ []) es in
            omega (
              arith,
              rest,
              ap (λ (h : List Entry). count_by (lacks_at port) (points_after h (history queue es)))
                  (pushed queue before e own),
              ap one_lack (same_point queue before e own),
              sum_by-cons one_lack (point_after before e) (points_after (before ++ e ∷ []) es),
              sum_by-cons one_lack (point_after (history queue before) e)
                  (points_after (history queue before ++ e ∷ []) (history queue es)),
            ))
        | inr other ↦ rw other
            (let rest = lacking_part (before ++ e ∷ []) es in
            omega (
              arith,
              rest,
              ap (λ (h : List Entry). count_by (lacks_at port) (points_after h (history queue es)))
                  (passed queue before e other),
              sum_by-cons one_lack (point_after before e) (points_after (before ++ e ∷ []) es),
            ))
      ]

item_sum : {X : Type 0} (f : X → ℕ) (k : ℕ) (xs : List X) (x : X) → slice_get xs k ≡ Some x → f x ≤
    sum_by f xs
item_sum f k [] x at = absurd (cc at)
item_sum f zero (y ∷ xs) x at = let same : y ≡ x = cc at in omega (
  arith,
  ap f same,
  sum_by-cons f
      y xs,
)
item_sum f (suc k) (y ∷ xs) x at = omega (arith, item_sum f k xs x at, sum_by-cons f y xs)

-- ---- one port

filter_front : {X : Type 0} (f : X → Bool) (xs ys : List X) → IsPrefix xs ys →
    IsPrefix (filter f xs) (filter f ys)
filter_front f xs ys begins =
    (filter f begins.0, sym (filter-append f xs begins.0) ∙ ap (filter f) begins.1)

module _ (places : ℕ) (lists : List (List Entry)) (es : List Entry) (port sent : ℕ)
    (r : ReceiverView) (rest : (queue : ℕ) → place_for queue places < places) (some : 0 < places)
    (long : length lists ≡ places) (here : AllFrom (AreHere places) 0 lists)
    (same : (queue : ℕ) → history queue es ≡ history queue (flat lists))
    (sent_is : sent ≡ sum_by (λ (l : List Entry). length (letters_to port l)) lists)
    (hears : Hears places 0 lists port r) (told : IsHeardAll r) where
  everyone : HasAllSenders r
  everyone = has_all places lists port r some long hears

  each : AllFrom (λ k l. IsPrefix (letters_of k r.received) (letters_to port l)) 0 lists
  each =
      all_from_mapped (λ k l. Among (k, letters_to port l) r.joined)
      (λ k l. IsPrefix (letters_of k r.received) (letters_to port l)) 0 lists
      (λ k l h. of_all (λ s. IsPrefix (letters_of s.0 r.received) s.1) k (letters_to port l)
      r.joined
      told.prefix h) hears.joined

  inside : Every (λ (p : Post). p.from < places) r.received
  inside =
      all_within places r.received
      (λ k most. told.beyond everyone.0 k (omega (
        arith,
        most,
        hears.made refl (omega (
          arith,
          some,
          long,
        )),
      )))

  placed : Every (λ (p : Post). place_for p.letter.queue places ≡ p.from) r.received
  placed =
      placed_posts places r.received inside
      (λ k few.
      let at = at_from (λ j l. IsPrefix (letters_of j r.received) (letters_to port l)
      × AreHere places j l) 0 k lists (both_from _ _ 0 lists each here) (omega (arith, few, long))
      in
      subst (λ n. Every (λ (l : Letter). place_for l.queue places ≡ n) (letters_of n r.received))
      (omega
      arith)
      (every_in_front (λ (l : Letter). place_for l.queue places ≡ 0 + k)
      (letters_of (0 + k) r.received)
      at.1.1.0.0
      (subst (Every (λ (l : Letter). place_for l.queue places ≡ 0 + k)) (sym at.1.1.0.1)
      (letters_here places (0 + k) port [] at.0
      (every_of (λ (e : Entry). place_for e.queue places ≡ 0 + k) at.0 at.1.1.1)))))

  -- the list of a queue's place, and the queue's history in it
  of_history : (queue k : ℕ) (l : List Entry) → place_for queue places ≡ 0 + k → slice_get lists
      k ≡ Some l
      →
      filter (is_from queue) (letters_to port l) ≡ letters_to port (history queue es)
  of_history queue k l is at =
      letters_part queue port [] l
      ∙ ap (letters_to port) (sym (same queue ∙ flat_at places 0 k queue lists l here is at))

  heard_of : (queue : ℕ) →
      letters_heard_of queue r.received ≡ filter (is_from queue)
      (letters_of (place_for queue places)
      r.received)
  heard_of queue = of_queue places queue r.received placed

  prefix_heard : (queue : ℕ) →
      IsPrefix (letters_heard_of queue r.received) (letters_to port (history queue es))
  prefix_heard queue =
      let k = place_for queue places in
      let at = at_from (λ j l. IsPrefix (letters_of j r.received) (letters_to port l)) 0 k lists
      each
      (omega (arith, rest queue, long)) in
      subst (λ (l : List Letter). IsPrefix l (letters_to port (history queue es))) (sym (heard_of
      queue))
      (subst (IsPrefix (filter (is_from queue) (letters_of k r.received)))
      (of_history queue k at.0 (omega arith) at.1.0)
      (filter_front (is_from queue) (letters_of k r.received) (letters_to port at.0)
      (subst (λ n. IsPrefix (letters_of n r.received) (letters_to port at.0)) (omega arith)
      at.1.1)))

  all_heard : sent ≡ length r.received → (queue : ℕ) →
      letters_heard_of queue r.received ≡ letters_to port (history queue es)
  all_heard full queue =
      let k = place_for queue places in
      let whole = told.whole everyone (hears.count ∙ sym sent_is ∙ full) in
      let wholes : AllFrom (λ j l. letters_of j r.received ≡ letters_to port l) 0 lists =
      all_from_mapped (λ j l. Among (j, letters_to port l) r.joined)
      (λ j l. letters_of j r.received ≡ letters_to port l) 0 lists
      (λ j l h. of_all (λ s. letters_of s.0 r.received ≡ s.1) j (letters_to port l) r.joined whole
      h)
      hears.joined in
      let at = at_from (λ j l. letters_of j r.received ≡ letters_to port l) 0 k lists wholes
      (omega (arith, rest queue, long)) in
      heard_of queue
      ∙ ap (λ n. filter (is_from queue) (letters_of n r.received)) (omega arith)
      ∙ ap (filter (is_from queue)) at.1.1
      ∙ of_history queue k at.0 (omega arith) at.1.0

  room_heard : (queue : ℕ) → 0 < lacking port (history queue es) → r.mailbox.capacity ≤ sent
  room_heard queue lack =
      let k = place_for queue places in
      let at = at_from (AreHere places) 0 k lists here (omega (arith, rest queue, long)) in
      let is = same queue ∙ flat_at places 0 k queue lists at.0 here (omega arith) at.1.0 in
      let most = told.full everyone
      (omega (
        arith,
        lack,
        ap (lacking port) is,
        lacking_part queue port [] at.0,
        item_sum (λ (l : List Entry). lacking port l) k lists at.0 at.1.0,
        hears.full,
      )) in
      omega (arith, most, hears.count, sent_is)

  heard_one : HasHeard es sent r.mailbox.capacity port r.received
  heard_one = record { prefix = prefix_heard; all = all_heard; room = room_heard }

-- ---- all ports

length_flat : {X Y : Type 0} (g : X → List Y) (xs : List X) →
    length (flat_map g xs) ≡ sum_by (λ x. length (g x)) xs
length_flat g [] = refl
length_flat g (x ∷ xs) =
    omega (
      arith,
      length-append (g x) (flat_map g xs),
      length_flat g xs,
      sum_by-cons (λ y. length
          (g y)) x xs,
    )

sums_same : {X : Type 0} (f g : X → ℕ) (xs : List X) → ((x : X) → f x ≡ g x) → sum_by f xs ≡ sum_by
    g xs
sums_same f g [] each = refl
sums_same f g (x ∷ xs) each = omega (
  arith,
  each x,
  sums_same f g xs each,
  sum_by-cons f x xs,
  sum_by-cons g x xs,
)

points_grow : (es fs : List Entry) → (more : List Point) × (points (es ++ fs) ≡ points es ++ more)
points_grow es fs = (points_after es fs, points_longer [] es fs)

-- what rows sent is what the lists say
pub all_sent : (port places : ℕ) (lists : List (List Entry)) (rows : List (List Known)) →
    ((k : ℕ) → Every (λ ws. IfSome (slice_get ws k) HasSeenOwn) rows) →
    Every (λ ws. length ws ≡ length lists) rows → AllFrom (IsListOf places rows) 0 lists →
    sent_in_all port rows ≡ sum_by (λ (l : List Entry). length (letters_to port l)) lists
all_sent port places lists rows placed many all =
    all_told points points_grow (points_long []) (notices_at port) places lists rows placed many all
    ∙ sums_same (λ (l : List Entry). sum_by (notices_at port) (points l))
    (λ (l : List Entry). length (letters_to port l)) lists
    (λ l. sym (length_flat (letters_at port) (points l)))

pub all_hear : (places : ℕ) (lists : List (List Entry)) (es : List Entry)
    (rows : List (List Known)) (olds news : List PortReceiver) →
    ((queue : ℕ) → place_for queue places < places) → 0 < places → length lists ≡ places →
    AllFrom (AreHere places) 0 lists →
    ((queue : ℕ) → history queue es ≡ history queue (flat lists)) →
    ((port : ℕ) → sent_in_all port rows
    ≡ sum_by (λ (l : List Entry). length (letters_to port l)) lists) →
    AllZip (HearsAs places 0 lists) olds news → Every IsHeard news →
    Every (λ (p : PortReceiver). HasHeardOf es rows p.port p.receiver) olds
all_hear places lists es rows [] news rest some long here same sent zip told = tt
all_hear places lists es rows (p ∷ ps) [] rest some long here same sent zip told = absurd zip
all_hear places lists es rows (p ∷ ps) (q ∷ qs) rest some long here same sent zip told = (
  subst (λ (received : List Post).
      HasHeard es (sent_in_all p.port rows) p.receiver.mailbox.capacity p.port received)
      zip.0.received
      (subst (λ n. HasHeard es (sent_in_all p.port rows) n p.port q.receiver.received)
      (ap (λ m. m.capacity) zip.0.mailbox)
      (heard_one places lists es p.port (sent_in_all p.port rows) q.receiver rest some long here
      same
      (sent p.port) zip.0.hears told.0)),
  all_hear places lists es rows ps qs rest some long here same sent zip.1 told.1,
)
