-- How many notices a pass's own entries put into mailboxes, turn by turn.
use Rattle.std.proofs.Common.{◌≡◌, ◌≢◌, ◌<◌, ◌≤◌, ◌+◌, ◌-◌, ◌^◌, ℕ, zero, suc, List, [], ◌∷◌, ◌++◌}
use Rattle.std.proofs.Common.{length, refl, sym, ap, ◌∙◌, subst, arith, inl, inr, Option, Some}
use Rattle.std.proofs.Common.{None, Bool, true, false, append-nil}
use Rattle.std.specs.Prelude.{slice_get, slice_set, sum_by, flat_map, option_to_list, IsSome}
use Rattle.std.specs.Prelude.{IfSome, ◌==◌, if◌then◌else◌, nat_eq}
use Rattle.std.specs.List.{range_with_len}
use Rattle.std.specs.BTreeMap.{BTreeMap, get}
use Rattle.std.specs.Ordering.{nat_cmp}
use Rattle.std.proofs.lemmas.Bool.{cases_Bool, eqb-true, eqb-false, eq-eqb}
use Rattle.std.proofs.lemmas.List.{length-set, length-map}
use Rattle.std.proofs.lemmas.List.Sums.{sum_by-append, sum_by-cons}
use Rattle.std.proofs.lemmas.Option.{slice_get_within}
use Rattle.packet_entry.specs.declared.packet.Card.{Card}
use Rattle.packet_entry.specs.declared.letter.Letter.{Letter}
use Rattle.nfqa_msgs.specs.declared.request.Request.{Request}
use Rattle.queue_core.specs.declared.event.Event.{Event}
use Rattle.queue_core.specs.declared.event.Event.TheVariants.{Arrive, Ask, PortClosed, DeviceDown}
use Rattle.queue_core.specs.declared.event.Reply.{Reply}
use Rattle.queue_core.specs.declared.event.Reply.TheVariants.{Arrived, Answer, Flushed}
use Rattle.queue_core.specs.declared.offers.Outcome.{Outcome}
use Rattle.queue_core.specs.declared.offers.Outcome.TheVariants as outcome
use Rattle.queue_core.specs.Laws.{Tells}
use Rattle.queue_core.specs.State.{Bound}
use Rattle.queue_core.specs.Step.{step}
use Rattle.turn_lock.specs.Places.{Ascends}
use Rattle.turn_lock.specs.Views as lock
use Rattle.turn_lock.specs.Views.{HasSeenOwn}
use Rattle.histories.specs.declared.entry.Entry.{Entry}
use Rattle.histories.specs.Happenings.{arrive, queue_of, closing_of, down_of, closings, downs}
use Rattle.histories.specs.History.{AreLegal}
use Rattle.histories.specs.Journeys.{Arrival}
use Rattle.histories.specs.States.{state_of, entry_of, entry_in, every_number}
use Rattle.locked_place.specs.declared.arrivals.Placed.{Placed}
use Rattle.locked_place.specs.declared.arrivals.Placed.TheVariants as spot
use Rattle.histories.specs.Letters.{letters_under, letters_of_event, letters_of_reply}
use Rattle.histories.specs.Letters.{letters_of_outcome}
use Rattle.locked_place.specs.Points.{Point, points, points_after, point_after}
use Rattle.hook_chain.specs.declared.chain.Decision.{Decision}
use Rattle.locked_place.specs.Turns.{IsTurn, ArrivesIn, AsksIn, ClosesIn, GoesDownIn, LooksOn}
use Rattle.locked_place.specs.Turns.{PlacesAs, IsPosted, HasSender}
use Rattle.locked_place.specs.Views.{PlaceLabel, label_of, port_of}
use Rattle.locked_place.specs.Times.{plain_view}
use Rattle.place_rows.specs.Rows.{Known, TimedKnown, IsTurnAt}
use Rattle.place_rows.specs.Shares.{at_places, notices_at, sent_at, sent_in}
use Rattle.place_turns.specs.Counts.{count_of, most_entries, IsCounted, AreCounted, CanCount}
use Rattle.place_turns.specs.Counts.{HasCounted}
use Rattle.place_turns.proofs.PassTurns.{get_same, get_other, some_same}

-- ---- what a turn's entries send

-- what the law of rows says
abbrev pub Grows : Type 0
Grows = (port : ℕ) (olds news : List Known) (place : ℕ) (found fs : List Entry) →
    ((k : ℕ) (v : Known) → slice_get olds k ≡ Some v → HasSeenOwn v) →
    IsTurnAt place olds news found (found ++ fs) →
    sent_in port news ≡ sent_in port olds + sum_by (notices_at port) (points_after found fs)

-- what these entries, after those, put into a port's mailbox
abbrev pub sends : ℕ → List Entry → List Entry → ℕ
sends port found fs = sum_by (notices_at port) (points_after found fs)

only_one : (v x : Known) (k : ℕ) → slice_get (v ∷ []) k ≡ Some x → v ≡ x
only_one v x zero at = some_same v x at
only_one v x (suc k) at = absurd (cc)

pub sent_after : Grows → (port : ℕ) (v w : Known) (found fs : List Entry) → HasSeenOwn v →
    IsTurn v found (found ++ fs) w → AreLegal (found ++ fs) →
    sent_at port w ≡ sent_at port v + sends port found fs
sent_after grows port v w found fs placed turn legal =
    let one = grows port (v ∷ []) (w ∷ []) 0 found fs
    (λ k x at. subst HasSeenOwn (only_one v x k at) placed)
    (record {
      one = record { before = v; after = w; had = refl; has = refl; turns = turn };
      legal = legal;
    }) in
    omega (arith, one, sum_by-cons (sent_at port) v [], sum_by-cons (sent_at port) w [])

-- ---- entries that send nothing

-- whatever state its queue is in, it puts no notice into a mailbox
abbrev pub IsSilent : Entry → Type 0
IsSilent e = (port : ℕ) (q : Option Bound) → letters_under port q e ≡ []

abbrev pub AreSilent : List Entry → Type 0
AreSilent [] = Unit {0}
AreSilent (e ∷ es) = IsSilent e × AreSilent es

both_silent : (es fs : List Entry) → AreSilent es → AreSilent fs → AreSilent (es ++ fs)
both_silent [] fs one two = two
both_silent (e ∷ es) fs one two = (one.0, both_silent es fs one.1 two)

pub silent_sends : (port : ℕ) (found fs : List Entry) → AreSilent fs → sends port found fs ≡ 0
silent_sends port found [] are = refl
silent_sends port found (e ∷ fs) are =
    omega (
      arith,
      sum_by-cons (notices_at port) (point_after found e) (points_after (found ++ e ∷ []) fs),
      ap (λ (ls : List Letter). length ls) (are.0 port (state_of found e.queue)),
      silent_sends port (found ++ e ∷ []) fs are.1,
    )

-- an event that is no arrival
abbrev SendsNone : Event → Type 0
SendsNone event = (queue : ℕ) (b : Bound) (reply : Reply) →
    letters_of_event queue b event reply ≡ []

quiet : (queue : ℕ) (event : Event) (reply : Reply) → SendsNone event →
    IsSilent (record { queue = queue; event = event; reply = reply })
quiet queue event reply none port None = refl
quiet queue event reply none port (Some b) =
    elim (cases_Bool (port == b.port)) [
      | inl h ↦ rw h (none queue b reply)
      | inr h ↦ rw h refl
    ]

pub ask_silent : (found : List Entry) (queue port call : ℕ) (request : Request) →
    IsSilent (entry_of found queue (Ask port call request))
ask_silent found queue port call request =
    quiet queue (Ask port call request) _ (λ queue b reply. refl)

closing_silent : (port queue : ℕ) (q : Option Bound) → AreSilent (closing_of port queue q)
closing_silent port queue None = tt
closing_silent port queue (Some b) = by_port (b.port == port)
  where
    by_port : (own : Bool) →
        AreSilent (if own then entry_in queue (Some b) (PortClosed port) ∷ [] else [])
    by_port true = (quiet queue (PortClosed port) _ (λ queue b reply. refl), tt)
    by_port false = tt

down_silent : (device queue : ℕ) (q : Option Bound) → AreSilent (down_of device queue q)
down_silent device queue None = tt
down_silent device queue (Some b) =
    (quiet queue (DeviceDown device) _ (λ queue b reply. refl), tt)

all_silent : (f : ℕ → List Entry) → ((n : ℕ) → AreSilent (f n)) → (ns : List ℕ) →
    AreSilent (flat_map f ns)
all_silent f each [] = tt
all_silent f each (n ∷ ns) = both_silent _ _ (each n) (all_silent f each ns)

pub closings_silent : (port : ℕ) (es : List Entry) → AreSilent (closings port es)
closings_silent port es =
    all_silent (λ q. closing_of port q (state_of es q))
    (λ q. closing_silent port q (state_of es q)) every_number

pub downs_silent : (device : ℕ) (es : List Entry) → AreSilent (downs device es)
downs_silent device es =
    all_silent (λ q. down_of device q (state_of es q))
    (λ q. down_silent device q (state_of es q)) every_number

-- ---- arrivals

-- a packet that is turned away has no notice
turned_silent : (card : Card) (outcome : Outcome) (n : ℕ) (queue : ℕ) (b : Bound) → 1 ≤ n →
    Tells (Arrive card false false) (Arrived outcome) n →
    letters_of_outcome queue b card outcome ≡ []
turned_silent card (outcome.Taken id) n queue b some tells = absurd (omega (arith, some, tells))
turned_silent card outcome.Overflow n queue b some tells = refl
turned_silent card outcome.OverflowOpen n queue b some tells = refl
turned_silent card (outcome.UserFull id) n queue b some tells = refl
turned_silent card (outcome.UserFullOpen id) n queue b some tells = refl
turned_silent card outcome.NoQueue n queue b some tells = refl
turned_silent card outcome.Bypassed n queue b some tells = refl
turned_silent card outcome.CopyNone n queue b some tells = refl
turned_silent card outcome.Loop n queue b some tells = refl

-- what the law of queues says of replies
abbrev pub RepliesTell : Type 0
RepliesTell = (q : Option Bound) (e : Event) →
    Tells e (step q e).reply (length (step q e).left)

-- the entry of an arrival whose packet came back sends nothing
back_sends : RepliesTell → (port : ℕ) (a : Arrival) (room : Bool) (found : List Entry)
    (o : Outcome) (back : Card) → PlacesAs (spot.Back o back) a room found →
    sends port found (entry_of found a.queue (arrive a room) ∷ []) ≡ 0
back_sends tell port a room found o back is =
    let q = state_of found a.queue in
    let told : Tells (Arrive a.card a.bypass room) (Arrived o) 1 =
    subst (λ n. Tells (Arrive a.card a.bypass room) (Arrived o) n)
    (ap (λ (l : List _). length l) is.leaves)
    (subst (λ r. Tells (Arrive a.card a.bypass room) r
    (length (step q (Arrive a.card a.bypass room)).left)) is.reply
    (tell q (Arrive a.card a.bypass room))) in
    let none = of_state q told in
    omega (
      arith,
      sum_by-cons (notices_at port) (point_after found (entry_of found a.queue (arrive a room))) [],
      ap (λ (ls : List Letter). length ls) none,
    )
  where
    of_state : (q : Option Bound) → Tells (Arrive a.card a.bypass room) (Arrived o) 1 →
        letters_under port q (entry_of found a.queue (arrive a room)) ≡ []
    of_state None told = refl
    of_state (Some b) told =
        elim (cases_Bool (port == b.port)) [
          | inl h ↦ rw h (ap (λ r. letters_of_reply a.queue b a.card r) is.reply
              ∙ turned_silent a.card o 1 a.queue b (omega arith) told)
          | inr h ↦ rw h refl
        ]

-- 1 for this port, else 0
abbrev one_to : ℕ → ℕ → ℕ
one_to to port = if port == to then 1 else 0

-- that of one whose packet waits sends one, to the queue's port alone
posted_sends : (port : ℕ) (a : Arrival) (room : Bool) (to : ℕ) (found : List Entry) →
    IsPosted a room to found →
    sends port found (entry_of found a.queue (arrive a room) ∷ [])
    ≡ one_to to port
posted_sends port a room to found is =
    omega (
      arith,
      sum_by-cons (notices_at port) (point_after found (entry_of found a.queue (arrive a room))) [],
      of_state (state_of found a.queue) is.to_port,
    )
  where
    of_state : (q : Option Bound) → port_of q ≡ Some to →
        length (letters_under port q (entry_of found a.queue (arrive a room)))
        ≡ one_to to port
    of_state None at = absurd (cc)
    of_state (Some b) at =
        let same : b.port ≡ to = some_same b.port to at in
        rw (← same) (elim (cases_Bool (port == b.port)) [
          | inl h ↦ rw h (ap (λ r. length (letters_of_reply a.queue b a.card r))
              is.taken.reply)
          | inr h ↦ rw h refl
        ])

-- ---- counts

same_label : (v w : Known) (found after : List Entry) → IsTurn v found after w →
    lock.label_of label_of w ≡ lock.label_of label_of v
same_label v w found after turn = ap (λ (x : Known). lock.label_of label_of x) turn.left

ascends_wider : (low high higher : ℕ) (ks : List ℕ) → Ascends low high ks → high ≤ higher →
    Ascends low higher ks
ascends_wider low high higher [] a most = tt
ascends_wider low high higher (k ∷ ks) a most =
    (a.0, (omega (arith, a.1.0, most), ascends_wider (k + 1) high higher ks a.1.1 most))

-- 64 bits count what it has seen, and so the entries up to the last of its own
pub few_own : (v : TimedKnown) → HasSeenOwn v → length v.seen < 2 ^ 64 →
    Ascends 0 most_entries v.own
few_own v placed short =
    ascends_wider 0 (length v.seen) most_entries v.own placed (omega (arith, short))

-- the same without times
pub placed_so : (v : TimedKnown) → HasSeenOwn v → HasSeenOwn (plain_view v)
placed_so v placed =
    subst (λ n. Ascends 0 n v.own) (sym (length-map v.seen (λ x. x.0))) placed

pub short_so : (v : TimedKnown) → length v.seen < 2 ^ 64 → length (plain_view v).seen < 2 ^ 64
short_so v short = omega (arith, short, length-map v.seen (λ (x : Entry × ℕ). x.0))

-- a look adds no entry to its own
pub look_own : (v w : Known) → LooksOn v w → w.own ≡ v.own
look_own v w look =
    ap (λ (x : Known). x.own) look.turn.left
    ∙ ap (λ n. v.own ++ range_with_len (length look.found) n)
    (let none : length look.found - length look.found ≡ 0 = omega arith in none)
    ∙ append-nil v.own

-- a turn that sends nothing leaves the counts as they are
nothing_more : Grows → (v w : Known) (found fs : List Entry) (counts : BTreeMap ℕ ℕ) →
    HasSeenOwn v → IsTurn v found (found ++ fs) w → AreLegal (found ++ fs) →
    ((port : ℕ) → sends port found fs ≡ 0) → Ascends 0 most_entries w.own → IsCounted v counts →
    IsCounted w counts
nothing_more grows v w found fs counts placed turn legal none few is = record {
  many = λ port. sent_after grows port v w found fs placed turn legal
      ∙ ap (λ n. sent_at port v + n) (none port)
      ∙ (let zero_more : sent_at port v + 0 ≡ sent_at port v = omega arith in zero_more)
      ∙ is.many port;
  there = λ named label. is.there named (sym (same_label v w found (found ++ fs) turn) ∙ label);
  only = λ named label. is.only named (sym (same_label v w found (found ++ fs) turn) ∙ label);
  few = few;
}

pub counted_still : Grows → (v w : Known) (found fs : List Entry) (counts : BTreeMap ℕ ℕ) →
    HasSeenOwn v → IsTurn v found (found ++ fs) w → AreLegal (found ++ fs) → AreSilent fs →
    Ascends 0 most_entries w.own → IsCounted v counts → IsCounted w counts
counted_still grows v w found fs counts placed turn legal silent few is =
    nothing_more grows v w found fs counts placed turn legal
    (λ port. silent_sends port found fs silent) few is

pub counted_look : Grows → (v w : Known) (counts : BTreeMap ℕ ℕ) → HasSeenOwn v →
    LooksOn v w → IsCounted v counts → IsCounted w counts
counted_look grows v w counts placed look is =
    counted_still grows v w look.found [] counts placed
    (subst (λ (es : List Entry). IsTurn v look.found es w)
    (sym (append-nil look.found)) look.turn)
    (subst AreLegal (sym (append-nil look.found)) look.legal) tt
    (subst (Ascends 0 most_entries) (sym (look_own v w look)) is.few) is

-- an arrival, as a turn that appends its entry
arrives_turn : (a : Arrival) (v w : Known) (done : Placed) (in_ : ArrivesIn a v w done) →
    IsTurn v in_.found
    (in_.found ++ entry_of in_.found a.queue (arrive a in_.arrives.room) ∷ []) w
arrives_turn a v w done in_ =
    subst (λ (es : List Entry). IsTurn v in_.found es w) in_.arrives.entered in_.turn

arrives_legal : (a : Arrival) (v w : Known) (done : Placed) (in_ : ArrivesIn a v w done) →
    AreLegal (in_.found ++ entry_of in_.found a.queue (arrive a in_.arrives.room) ∷ [])
arrives_legal a v w done in_ = subst AreLegal in_.arrives.entered in_.legal

counted_back : Grows → RepliesTell → (a : Arrival) (v w : Known) (o : Outcome) (back : Card)
    (counts : BTreeMap ℕ ℕ) → HasSeenOwn v → ArrivesIn a v w (spot.Back o back) →
    Ascends 0 most_entries w.own → IsCounted v counts → IsCounted w counts
counted_back grows tell a v w o back counts placed in_ few is =
    nothing_more grows v w in_.found
    (entry_of in_.found a.queue (arrive a in_.arrives.room) ∷ []) counts placed
    (arrives_turn a v w (spot.Back o back) in_) (arrives_legal a v w (spot.Back o back) in_)
    (λ port. back_sends tell port a in_.arrives.room in_.found o back in_.arrives.places) few is

-- one more was counted
counted_posted : Grows → (a : Arrival) (v w : Known) (to : ℕ) (olds news : BTreeMap ℕ ℕ) →
    HasSeenOwn v → ArrivesIn a v w (spot.Waiting to) → Ascends 0 most_entries w.own →
    IsCounted v olds → IsSome (get nat_cmp olds to) →
    get nat_cmp news to ≡ Some (count_of (get nat_cmp olds to) + 1) →
    ((p : ℕ) → p ≢ to → get nat_cmp news p ≡ get nat_cmp olds p) → IsCounted w news
counted_posted grows a v w to olds news placed in_ few is was more others = record {
  many = λ port. grown port ∙ (elim (cases_Bool (port == to)) [
    | inl same ↦ (let e : port ≡ to = eqb-true port to same in
        rw same (ap (λ n. n + 1) (is.many port)
        ∙ ap (λ p. count_of (get nat_cmp olds p) + 1) e ∙ ap count_of (sym more)
        ∙ ap (λ p. count_of (get nat_cmp news p)) (sym e)))
    | inr other ↦ rw other ((let none : sent_at port v + 0 ≡ sent_at port v = omega arith in none)
        ∙ is.many port ∙ ap count_of (sym (others port (eqb-false port to other))))
  ]);
  there = λ named label port has. elim (cases_Bool (port == to)) [
    | inl same ↦ subst (λ o. IsSome o)
        (sym (ap (get nat_cmp news) (eqb-true port to same) ∙ more)) refl
    | inr other ↦ subst (λ o. IsSome o) (sym (others port (eqb-false port to other)))
        (is.there named (sym (same_label v w in_.found _
        (arrives_turn a v w (spot.Waiting to) in_)) ∙ label) port has)
  ];
  only = λ named label port has.
      is.only named (sym (same_label v w in_.found _
      (arrives_turn a v w (spot.Waiting to) in_)) ∙ label) port
      (elim (cases_Bool (port == to)) [
        | inl same ↦ subst (λ p. IsSome (get nat_cmp olds p)) (sym (eqb-true port to same)) was
        | inr other ↦ subst (λ o. IsSome o) (others port (eqb-false port to other)) has
      ]);
  few = few;
}
  where
    grown : (port : ℕ) → sent_at port w ≡ sent_at port v + one_to to port
    grown port =
        sent_after grows port v w in_.found
        (entry_of in_.found a.queue (arrive a in_.arrives.room) ∷ []) placed
        (arrives_turn a v w (spot.Waiting to) in_)
        (arrives_legal a v w (spot.Waiting to) in_)
        ∙ ap (λ n. sent_at port v + n)
        (posted_sends port a in_.arrives.room to in_.found in_.arrives.places)

-- ---- counts fit 64 bits

outcome_few : (queue : ℕ) (b : Bound) (card : Card) (o : Outcome) →
    length (letters_of_outcome queue b card o) ≤ 1
outcome_few queue b card (outcome.Taken id) = omega arith
outcome_few queue b card outcome.Overflow = omega arith
outcome_few queue b card outcome.OverflowOpen = omega arith
outcome_few queue b card (outcome.UserFull id) = omega arith
outcome_few queue b card (outcome.UserFullOpen id) = omega arith
outcome_few queue b card outcome.NoQueue = omega arith
outcome_few queue b card outcome.Bypassed = omega arith
outcome_few queue b card outcome.CopyNone = omega arith
outcome_few queue b card outcome.Loop = omega arith

event_few : (queue : ℕ) (b : Bound) (event : Event) (reply : Reply) →
    length (letters_of_event queue b event reply) ≤ 1
event_few queue b (Arrive card bypass room) (Arrived o) = outcome_few queue b card o
event_few queue b (Arrive card bypass room) (Answer errno taken) = omega arith
event_few queue b (Arrive card bypass room) (Flushed taken) = omega arith
event_few queue b (Ask port call request) reply = omega arith
event_few queue b (PortClosed port) reply = omega arith
event_few queue b (DeviceDown device) reply = omega arith

under_few : (port : ℕ) (q : Option Bound) (e : Entry) → length (letters_under port q e) ≤ 1
under_few port None e = omega arith
under_few port (Some b) e =
    elim (cases_Bool (port == b.port)) [
      | inl h ↦ rw h (event_few e.queue b e.event e.reply)
      | inr h ↦ rw h (omega arith)
    ]

one_few : (port : ℕ) (o : Option Point) → sum_by (notices_at port) (option_to_list o) ≤ 1
one_few port None = omega arith
one_few port (Some p) =
    omega (arith, under_few port p.state p.entry, sum_by-cons (notices_at port) p [])

pub places_few : (port : ℕ) (ps : List Point) (ks : List ℕ) →
    sum_by (notices_at port) (at_places ps ks) ≤ length ks
places_few port ps [] = omega arith
places_few port ps (k ∷ ks) =
    omega (
      arith,
      sum_by-append (notices_at port) (option_to_list (slice_get ps k)) (at_places ps ks),
      one_few port (slice_get ps k),
      places_few port ps ks,
    )

pub ascend_few : (low high : ℕ) (ks : List ℕ) → Ascends low high ks → length ks ≤ high - low
ascend_few low high [] a = omega arith
ascend_few low high (k ∷ ks) a =
    omega (arith, a.0, a.1.0, ascend_few (k + 1) high ks a.1.1)

-- no more was sent than was seen
pub sent_few : (port : ℕ) (v : Known) → HasSeenOwn v → sent_at port v ≤ length v.seen
sent_few port v placed =
    omega (arith, places_few port (points v.seen) v.own, ascend_few 0 (length v.seen) v.own placed)

-- where a notice was put into a port's mailbox, its count had room for one more
count_fits : Grows → (a : Arrival) (v w : Known) (to : ℕ) (counts : BTreeMap ℕ ℕ) →
    HasSeenOwn v → HasSeenOwn w → ArrivesIn a v w (spot.Waiting to) → IsCounted v counts →
    length w.seen < 2 ^ 64 → count_of (get nat_cmp counts to) + 1 < 2 ^ 64
count_fits grows a v w to counts placed placed_then in_ is short =
    let grown : sent_at to w ≡ sent_at to v + 1 =
    sent_after grows to v w in_.found
    (entry_of in_.found a.queue (arrive a in_.arrives.room) ∷ []) placed
    (arrives_turn a v w (spot.Waiting to) in_) (arrives_legal a v w (spot.Waiting to) in_)
    ∙ ap (λ n. sent_at to v + n)
    (posted_sends to a in_.arrives.room to in_.found in_.arrives.places ∙ own to) in
    omega (arith, sent_few to w placed_then, is.many to, grown, short)
  where
    own : (n : ℕ) → one_to n n ≡ 1
    own n = rw (eq-eqb n n refl) refl

-- there is a count for the notice of a packet that waits, with room for one more
pub can_count : Grows → (a : Arrival) (v w : Known) (done : Placed) (counts : BTreeMap ℕ ℕ) →
    HasSeenOwn v → HasSeenOwn w → ArrivesIn a v w done → IsCounted v counts →
    length w.seen < 2 ^ 64 → (named : PlaceLabel) → lock.label_of label_of v ≡ Some named →
    HasSender named.senders done → CanCount counts done
can_count grows a v w (spot.Waiting to) counts one two in_ is short named label sender = (
  is.there named label to sender,
  count_fits grows a v w to counts one two in_ is short,
)
can_count grows a v w (spot.Back o back) counts one two in_ is short named label sender =
    tt

-- once it is counted, the counts stand for the pass
pub counted_arrived : Grows → RepliesTell → (a : Arrival) (v w : Known) (done : Placed)
    (olds news : BTreeMap ℕ ℕ) → HasSeenOwn v → ArrivesIn a v w done →
    Ascends 0 most_entries w.own → IsCounted v olds → CanCount olds done →
    HasCounted olds news done → IsCounted w news
counted_arrived grows tell a v w (spot.Waiting to) olds news placed in_ few is can did =
    counted_posted grows a v w to olds news placed in_ few is can.0 did.0 did.1
counted_arrived grows tell a v w (spot.Back o back) olds news placed in_ few is can did =
    subst (IsCounted w) (sym did) (counted_back grows tell a v w o back olds placed in_ few is)

-- ---- counts of all places

pub counts_there : (known : List Known) (counts : List (BTreeMap ℕ ℕ)) (k : ℕ) (v : Known)
    (c : BTreeMap ℕ ℕ) → AreCounted known counts → slice_get known k ≡ Some v →
    slice_get counts k ≡ Some c → IsCounted v c
counts_there known counts k v c are at has =
    subst (λ o. IfSome o (IsCounted v)) has (are.each k v at)

-- one pass and its counts changed
pub counts_set : (known : List Known) (counts : List (BTreeMap ℕ ℕ)) (k : ℕ) (w : Known)
    (c : BTreeMap ℕ ℕ) → AreCounted known counts → k < length known → IsCounted w c →
    AreCounted (slice_set known k w) (slice_set counts k c)
counts_set known counts k w c are there new = record {
  as_many = length-set counts k c ∙ are.as_many ∙ sym (length-set known k w);
  each = λ j v at. elim (cases_Bool (nat_eq j k)) [
    | inl same ↦ (let e : j ≡ k = eqb-true j k same in
        let is_v : w ≡ v = some_same w v (sym (get_same known k w there)
        ∙ ap (slice_get (slice_set known k w)) (sym e) ∙ at) in
        subst (λ o. IfSome o (IsCounted v))
        (sym (ap (slice_get (slice_set counts k c)) e
        ∙ get_same counts k c (omega (arith, are.as_many, there))))
        (subst (λ x. IsCounted x c) is_v new))
    | inr other ↦ (let apart = eqb-false j k other in
        subst (λ o. IfSome o (IsCounted v)) (sym (get_other counts k j c apart))
        (are.each j v (sym (get_other known k j w apart) ∙ at)))
  ];
}

-- one pass changed, and its counts stand for it as they are
pub counts_still : (known : List Known) (counts : List (BTreeMap ℕ ℕ)) (k : ℕ) (v w : Known) →
    AreCounted known counts → slice_get known k ≡ Some v →
    ((c : BTreeMap ℕ ℕ) → IsCounted v c → IsCounted w c) →
    AreCounted (slice_set known k w) counts
counts_still known counts k v w are at keeps = record {
  as_many = are.as_many ∙ sym (length-set known k w);
  each = λ j x at_j. elim (cases_Bool (nat_eq j k)) [
    | inl same ↦ (let e : j ≡ k = eqb-true j k same in
        let is_x : w ≡ x = some_same w x
        (sym (get_same known k w (slice_get_within known k v at))
        ∙ ap (slice_get (slice_set known k w)) (sym e) ∙ at_j) in
        subst (λ n. IfSome (slice_get counts n) (IsCounted x)) (sym e)
        (subst (λ y. IfSome (slice_get counts k) (IsCounted y)) is_x
        (kept (slice_get counts k) (are.each k v at))))
    | inr other ↦ are.each j x (sym (get_other known k j w (eqb-false j k other)) ∙ at_j)
  ];
}
  where
    kept : (o : Option (BTreeMap ℕ ℕ)) → IfSome o (IsCounted v) → IfSome o (IsCounted w)
    kept None is = tt
    kept (Some c) is = keeps c is

-- ---- turns that send nothing

pub counted_asked : Grows → (port call : ℕ) (request : Request) (v w : Known) (errno : ℕ)
    (handed : List (Card × Decision)) (counts : BTreeMap ℕ ℕ) → HasSeenOwn v →
    AsksIn port call request v w errno handed → Ascends 0 most_entries w.own →
    IsCounted v counts → IsCounted w counts
counted_asked grows port call request v w errno handed counts placed in_ few is =
    counted_still grows v w in_.found
    (entry_of in_.found (queue_of request) (Ask port call request) ∷ []) counts placed
    (subst (λ (es : List Entry). IsTurn v in_.found es w) in_.asks.entered in_.turn)
    (subst AreLegal in_.asks.entered in_.legal)
    (ask_silent in_.found (queue_of request) port call request, tt) few is

pub counted_closed : Grows → (port : ℕ) (v w : Known) (count : ℕ) (counts : BTreeMap ℕ ℕ) →
    HasSeenOwn v → ClosesIn port v w count → Ascends 0 most_entries w.own → IsCounted v counts →
    IsCounted w counts
counted_closed grows port v w count counts placed in_ few is =
    counted_still grows v w in_.found (closings port in_.found) counts placed in_.turn in_.legal
    (closings_silent port in_.found) few is

pub counted_down : Grows → (device : ℕ) (v w : Known) (count : ℕ) (counts : BTreeMap ℕ ℕ) →
    HasSeenOwn v → GoesDownIn device v w count → Ascends 0 most_entries w.own →
    IsCounted v counts → IsCounted w counts
counted_down grows device v w count counts placed in_ few is =
    counted_still grows v w in_.found (downs device in_.found) counts placed in_.turn in_.legal
    (downs_silent device in_.found) few is

-- ---- the counts of all places

-- what the counts of a place say of a port
abbrev pub count_at : ℕ → BTreeMap ℕ ℕ → ℕ
count_at port counts = count_of (get nat_cmp counts port)

pub total_is : (port : ℕ) (known : List Known) (counts : List (BTreeMap ℕ ℕ)) →
    AreCounted known counts → sum_by (count_at port) counts ≡ sent_in port known
total_is port [] [] are = refl
total_is port [] (c ∷ cs) are = absurd (omega (arith, are.as_many))
total_is port (v ∷ vs) [] are = absurd (omega (arith, are.as_many))
total_is port (v ∷ vs) (c ∷ cs) are =
    omega (
      arith,
      sum_by-cons (count_at port) c cs,
      sum_by-cons (sent_at port) v vs,
      (are.each 0 v refl).many port,
      total_is port vs cs
          (record { as_many = omega (arith, are.as_many); each = λ k x at. are.each (suc k) x at }),
    )
