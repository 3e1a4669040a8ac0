-- A closed plane, by the numbers of its passes: what each has seen begins the list of its place,
-- each entry of the list is some pass's own, and ports received what these sent.
use Rattle.std.proofs.Common.{◌++◌, ◌+◌, ◌<◌, ◌∙◌, ◌∷◌, ◌≡◌, ◌≤◌, ◌⊎◌, Bool, List, None}
use Rattle.std.proofs.Common.{Option, Some, []}
use Rattle.std.proofs.Common.{ap, arith, false, inl, inr, length, map, refl, subst, suc, sym}
use Rattle.std.proofs.Common.{true, zero, ℕ}
use Rattle.std.proofs.Math.Nat.{mod-lt}
use Rattle.std.proofs.lemmas.Bool.{cases_Bool, cases_lt, eq-eqb, eqb-true}
use Rattle.std.proofs.lemmas.List.{length-map}
use Rattle.std.proofs.lemmas.List.Sums.{sum_by-cons}
use Rattle.std.proofs.lemmas.Option.{slice_get_within}
use Rattle.std.specs.List.{list_any}
use Rattle.std.specs.Prelude.{◌==◌, All, IfSome, filter, if◌then◌else◌, nat_eq, option_map}
use Rattle.std.specs.Prelude.{slice_get}
use Rattle.std.specs.Prelude.{sum_by}
use Rattle.mailbox.specs.Views.{MailboxView, ReceiverView}
use Rattle.mailbox.specs.declared.view.Post.{Post}
use Rattle.packet_entry.specs.declared.letter.Letter.{Letter}
use Rattle.histories.specs.Grouping.{IsGrouped}
use Rattle.histories.specs.History.{history, is_of}
use Rattle.histories.specs.Letters.{is_from}
use Rattle.histories.specs.Numbers.{queue_count}
use Rattle.histories.specs.declared.entry.Entry.{Entry}
use Rattle.histories.specs.declared.histories.Histories.{Histories}
use Rattle.histories.specs.declared.log.Did.{Did}
use Rattle.histories.specs.declared.log.PortLog.{PortLog}
use Rattle.histories.specs.Places.{place_for}
use Rattle.run_parts.specs.Notices.{letters_from}
use Rattle.run_parts.specs.Room.{some_lacks}
use Rattle.place_rows.specs.Ending.{IsListOf, rows_of, known_by}
use Rattle.place_rows.specs.Hearing.{HasHeardOf}
use Rattle.place_rows.specs.Joining.{Begins, is_place, own_at, own_sum}
use Rattle.place_rows.specs.Lists.{AllFrom, Every, flat}
use Rattle.place_rows.specs.Rows.{Known}
use Rattle.place_rows.specs.Shares.{sent_in_all}
use Rattle.place_rows.specs.declared.ending.PortReceiver.{PortReceiver}
use Rattle.plane.specs.Closings.{IsClosed, all_holders, dids_among, log_among, port_holds}
use Rattle.plane.specs.Closings.{receiver_of}
use Rattle.plane.specs.Opening.{known_in}
use Rattle.plane.specs.Passes.{FeederView, IsPortOf, PortView}
use Rattle.plane.specs.Planes.{order_of, places_of, setting_of}
use Rattle.plane.specs.Remaining.{times_in}
use Rattle.plane.specs.declared.plane.Plane.{Plane}
use Rattle.turn_lock.specs.Places.{Ascends}
use Rattle.live_runs.specs.ClosedPlanes.{IsClosedPlane, IsCovered, log_by, sent_by_all}
use Rattle.live_runs.specs.Locks.{is_in, marked_from}
use Rattle.live_runs.specs.Passes.{Pass, feeder_number, is_pass, seen_at}
use Rattle.live_runs.specs.Seen.{EachIs, Ours, Theirs, entries}
use Rattle.live_passes.specs.Numbered.{AreAll, pass_among, passes_in, rows_in}
use Rattle.live_passes.specs.Views.{port_pass, seen_of, shares_of}
use Rattle.live_passes.proofs.PortOccurrences.{all_self, among_here, among_there, found, times_here}
use Rattle.live_passes.proofs.PortOccurrences.{times_more, times_there, turned}
use Rattle.live_passes.proofs.MeetingOfAll.{IsKnownOf, every_append, feeder_known, item_at}
use Rattle.live_passes.proofs.MeetingOfAll.{of_feeder}
use Rattle.live_passes.proofs.MeetingOfAll.{of_port, port_known}
use Rattle.live_passes.proofs.OneQueue.{lacks_some, notices_are}
use Rattle.live_passes.proofs.NewPasses.{port_number}
use Rattle.live_passes.proofs.SentTotals.{in_first, in_longer, not_feeder, ports_in}
use Rattle.live_passes.proofs.Turns.{entries_of_share}
use mathlib.Core.List.{IsPrefix}

-- ---- lists

one_of : {X : Type 0} (x y : X) → Some x ≡ Some y → x ≡ y
one_of x y e = cc

get_longer : {X : Type 0} (xs ys : List X) (k : ℕ) → k < length xs →
    slice_get (xs ++ ys) k ≡ slice_get xs k
get_longer [] ys k few = absurd (omega (arith, few))
get_longer (x ∷ xs) ys zero few = refl
get_longer (x ∷ xs) ys (suc k) few = get_longer xs ys k (omega (arith, few))

every_at : {X : Type 0} (P : X → Type 0) (xs : List X) (k : ℕ) (x : X) → Every P xs →
    slice_get xs k ≡ Some x → P x
every_at P [] k x all at = absurd (cc at)
every_at P (y ∷ xs) zero x all at = subst P (one_of y x at) all.0
every_at P (y ∷ xs) (suc k) x all at = every_at P xs k x all.1 at

every_of : {X : Type 0} (P : X → Type 0) (xs : List X) → All P xs → Every P xs
every_of P [] all = tt
every_of P (x ∷ xs) all =
    (all 0 x (omega arith), every_of P xs (λ k d h. all (suc k) d (omega (arith, h))))

each_by_place : (Q : Entry → Type 0) (es : List Entry) →
    ((i : ℕ) (e : Entry) → slice_get es i ≡ Some e → Q e) → EachIs Q es
each_by_place Q [] each = tt
each_by_place Q (e ∷ es) each =
    (each 0 e refl, each_by_place Q es (λ i f is. each (suc i) f is))

from_at : {X : Type 0} (P : ℕ → X → Type 0) (n k : ℕ) (xs : List X) (x : X) → AllFrom P n xs →
    slice_get xs k ≡ Some x → P (n + k) x
from_at P n k [] x all at = absurd (cc at)
from_at P n zero (y ∷ xs) x all at =
    subst (λ m. P m x) (omega arith) (subst (P n) (one_of y x at) all.0)
from_at P n (suc k) (y ∷ xs) x all at =
    subst (λ m. P m x) (omega arith) (from_at P (n + 1) k xs x all.1 at)

-- ---- a queue's entries

none_high : (count queue : ℕ) (es : List Entry) → Every (λ (e : Entry). e.queue < count) es →
    count ≤ queue → history queue es ≡ []
none_high count queue [] all high = refl
none_high count queue (e ∷ es) all high = elim (cases_Bool (is_of queue e)) [
  | inl same ↦ absurd (omega (arith, eqb-true e.queue queue same, all.0, high))
  | inr other ↦ rw other (none_high count queue es all.1 high)
]

has_one : (es : List Entry) (i : ℕ) (e : Entry) → slice_get es i ≡ Some e →
    history e.queue es ≡ [] → ⊥
has_one [] i e at none = absurd (cc at)
has_one (x ∷ es) zero e at none =
    let same : x.queue ≡ e.queue = ap (λ (y : Entry). y.queue) (one_of x e at) in
    let wrong : x ∷ history e.queue es ≡ [] = rw (eq-eqb x.queue e.queue same) at none in
    absurd (cc wrong)
has_one (x ∷ es) (suc i) e at none =
    by (cases_Bool (is_of e.queue x)) (λ so. has_one es i e at so)
  where
    by : (is_of e.queue x ≡ true) ⊎ (is_of e.queue x ≡ false) →
        (history e.queue es ≡ [] → ⊥) → ⊥
    by (inl h) next =
        let wrong : x ∷ history e.queue es ≡ [] = rw h at none in
        absurd (cc wrong)
    by (inr h) next = next (rw h at none)

-- ---- marks

marked_there : (own : ℕ → Bool) (at i : ℕ) (es : List Entry) (e : Entry) →
    slice_get es i ≡ Some e → own (at + i) ≡ true →
    slice_get (marked_from own at es) i ≡ Some (Ours e)
marked_there own at i [] e is mine = absurd (cc is)
marked_there own at zero (x ∷ es) e is mine =
    ap (λ (b : Bool). Some (if b then Ours x else Theirs x))
    (subst (λ n. own n ≡ true) (omega arith) mine)
    ∙ ap (λ (y : Entry). Some (Ours y)) (one_of x e is)
marked_there own at (suc i) (x ∷ es) e is mine =
    marked_there own (at + 1) i es e is (subst (λ n. own n ≡ true) (omega arith) mine)

own_there : (i : ℕ) (own : List ℕ) → 0 < sum_by (is_place i) own → is_in own i ≡ true
own_there i [] some = absurd (omega (arith, some))
own_there i (k ∷ own) some = by (cases_Bool (nat_eq i k)) (λ more. own_there i own more)
  where
    by : (nat_eq i k ≡ true) ⊎ (nat_eq i k ≡ false) →
        (0 < sum_by (is_place i) own → is_in own i ≡ true) → is_in (k ∷ own) i ≡ true
    by (inl h) next = rw h refl
    by (inr h) next =
        let other : is_place i k ≡ 0 = rw (turned i k h) refl in
        rw h (next (omega (arith, some, sum_by-cons (is_place i) k own, other)))

own_below : (low high : ℕ) (own : List ℕ) (i : ℕ) → Ascends low high own → is_in own i ≡ true →
    i < high
own_below low high [] i are mine = absurd (cc mine)
own_below low high (k ∷ own) i are mine =
    by (cases_Bool (nat_eq i k)) (λ more. own_below (k + 1) high own i are.1.1 more)
  where
    by : (nat_eq i k ≡ true) ⊎ (nat_eq i k ≡ false) →
        (is_in own i ≡ true → i < high) → i < high
    by (inl h) next =
        let same : i ≡ k = eqb-true i k h in
        let below = are.1.0 in
        omega (arith, same, below)
    by (inr h) next = next (rw h at mine)

-- ---- one row, at one place

module _ (plane : Plane) (k : ℕ) (list : List Entry) (known : List Known)
    (few : k < places_of plane) (of : IsKnownOf plane known) (begins : Begins k list known) where
  here : (v : Known) × (slice_get known k ≡ Some v)
  here = item_at known k (omega (arith, few, of.1))

  front : (rest : List Entry) × (here.0.seen ++ rest ≡ list)
  front = subst (λ o. IfSome (option_map (λ (u : Known). u.seen) o)
      (λ seen. IsPrefix seen list)) here.1 begins

  -- what it has seen begins the list
  row_begins : (rest : List Entry) × (list ≡ entries (shares_of known k) ++ rest)
  row_begins = (
    front.0,
    sym (ap (λ es. es ++ front.0)
        (ap (λ o. entries (seen_of o)) here.1 ∙ entries_of_share here.0.own here.0.seen)
        ∙ front.1),
  )

  -- and its own entries are marked as such
  row_owns : (i : ℕ) (e : Entry) → slice_get list i ≡ Some e → 0 < own_at (is_place i) k known →
      slice_get (shares_of known k) i ≡ Some (Ours e)
  row_owns i e is some =
      let v = here.0 in
      let mine : is_in v.own i ≡ true =
      own_there i v.own (subst (λ o. 0 < own_sum (is_place i) o) here.1 some) in
      let below : i < length v.seen =
      own_below 0 (length v.seen) v.own i (of.0.placed k v here.1) mine in
      let at : slice_get v.seen i ≡ Some e =
      sym (get_longer v.seen front.0 i below) ∙ ap (λ es. slice_get es i) front.1 ∙ is in
      ap (λ o. slice_get (seen_of o) i) here.1
      ∙ marked_there (is_in v.own) 0 i v.seen e at
      (subst (λ n. is_in v.own n ≡ true) (omega arith) mine)

-- ---- ports

-- who is there is there at least once
some_times : (ps : List PortView) (n : ℕ) (p : PortView) → slice_get ps n ≡ Some p →
    1 ≤ times_in p.port ps
some_times [] n p at = absurd (cc at)
some_times (q ∷ ps) zero p at =
    omega (
      arith,
      times_here p.port q ps (eq-eqb q.port p.port
          (ap (λ (x : PortView). x.port) (one_of q p at))),
    )
some_times (q ∷ ps) (suc n) p at =
    omega (arith, times_more p.port q ps, some_times ps n p at)

-- the pass of the port with this number in the list
among_at : (ps : List PortView) (n : ℕ) (p : PortView) → slice_get ps n ≡ Some p →
    times_in p.port ps ≡ 1 → pass_among ps p.port ≡ port_pass p
among_at [] n p at one = absurd (cc at)
among_at (q ∷ ps) zero p at one =
    let same : q ≡ p = one_of q p at in
    among_here p.port q ps (eq-eqb q.port p.port (ap (λ (x : PortView). x.port) same))
    ∙ ap port_pass same
among_at (q ∷ ps) (suc n) p at one =
    by (cases_Bool (q.port == p.port)) (λ so. among_at ps n p at so)
  where
    by : ((q.port == p.port) ≡ true) ⊎ ((q.port == p.port) ≡ false) →
        (times_in p.port ps ≡ 1 → pass_among ps p.port ≡ port_pass p) →
        pass_among (q ∷ ps) p.port ≡ port_pass p
    by (inl h) next =
        absurd (omega (arith, one, times_here p.port q ps h, some_times ps n p at))
    by (inr h) next = among_there p.port q ps h
        ∙ next (omega (arith, one, times_there p.port q ps h))

map_item : (ps : List PortView) (n : ℕ) (known : List Known) →
    slice_get (map known_in ps) n ≡ Some known →
    (p : PortView) × ((slice_get ps n ≡ Some p) × (p.trail.known ≡ known))
map_item [] n known at = absurd (cc at)
map_item (p ∷ ps) zero known at = (p, (refl, one_of p.trail.known known at))
map_item (p ∷ ps) (suc n) known at = map_item ps n known at

ports_begin : (plane : Plane) (k : ℕ) (list : List Entry) (ps : List PortView) →
    Every (IsPortOf plane) ps → Every (Begins k list) (map known_in ps) →
    Every (λ (p : PortView). IsKnownOf plane p.trail.known × Begins k list p.trail.known) ps
ports_begin plane k list [] all begins = tt
ports_begin plane k list (p ∷ ps) all begins =
    ((port_known plane p all.0, begins.0), ports_begin plane k list ps all.1 begins.1)

ports_heard : (plane : Plane) (es : List Entry) (rows : List (List Known)) (ps : List PortView) →
    Every (IsPortOf plane) ps →
    Every (λ (p : PortReceiver). HasHeardOf es rows p.port p.receiver) (map receiver_of ps) →
    Every (λ (p : PortView). IsPortOf plane p × HasHeardOf es rows p.port p.receiver) ps
ports_heard plane es rows [] all heard = tt
ports_heard plane es rows (p ∷ ps) all heard =
    ((all.0, heard.0), ports_heard plane es rows ps all.1 heard.1)

rows_same : (ps : List PortView) → map known_by (map port_holds ps) ≡ map known_in ps
rows_same [] = refl
rows_same (p ∷ ps) = ap (λ (rows : List (List Known)). p.trail.known ∷ rows) (rows_same ps)

-- ---- logs

logs_same : (f g : ℕ → PortLog) (order : List ℕ) →
    ((q : ℕ) → list_any (nat_eq q) order ≡ true → f q ≡ g q) → map f order ≡ map g order
logs_same f g [] each = refl
logs_same f g (q ∷ order) each =
    ap (λ l. l ∷ map f order) (each q (in_first q order))
    ∙ ap (λ ls. g q ∷ ls) (logs_same f g order (λ r is. each r (in_longer r q order is)))

dids_same : (ps : List PortView) (q : ℕ) → dids_among ps q ≡ (pass_among ps q).dids
dids_same [] q = refl
dids_same (p ∷ ps) q = by (cases_Bool (p.port == q)) (dids_same ps q)
  where
    by : ((p.port == q) ≡ true) ⊎ ((p.port == q) ≡ false) →
        dids_among ps q ≡ (pass_among ps q).dids →
        dids_among (p ∷ ps) q ≡ (pass_among (p ∷ ps) q).dids
    by (inl h) rest = rw h refl
    by (inr h) rest = rw h rest

abbrev log_with : ℕ → List Did → PortLog
log_with q dids = record { port = q; dids = dids }

-- ---- a closed plane

-- what is known of lists of places
abbrev pub OwnerLaw : Type 0
OwnerLaw = (places k i : ℕ) (rows : List (List Known)) (list : List Entry) →
    IsListOf places rows k list → i < length list → (n : ℕ) × ((known : List Known)
    × ((slice_get rows n ≡ Some known) × (0 < own_at (is_place i) k known)))

abbrev pub PlaceLaw : Type 0
PlaceLaw = (places queue k : ℕ) (rows : List (List Known)) (lists : List (List Entry))
    (list es : List Entry) → AllFrom (IsListOf places rows) 0 lists → IsGrouped (flat lists) es →
    place_for queue places ≡ k → slice_get lists k ≡ Some list → history queue es ≡ history queue
    list

-- nothing is there
abbrev list_of : Option (List Entry) → List Entry
list_of None = []
list_of (Some es) = es

module _ (owners : OwnerLaw) (of_place : PlaceLaw) (plane : Plane) (feeder : FeederView)
    (ports closed : List PortView) (h : Histories)
    (sent : (port : ℕ) → sent_in_all port (rows_in feeder (ports ++ closed))
    ≡ sent_by_all (order_of plane) (places_of plane) (passes_in feeder (ports ++ closed)) port)
    (all : AreAll plane feeder ports closed)
    (is : IsClosed plane feeder (ports ++ closed) h)
    (queues : All (λ (e : Entry). e.queue < queue_count) h.entries) where
  abbrev ps : List PortView
  ps = ports ++ closed

  abbrev order : List ℕ
  order = order_of plane

  abbrev places : ℕ
  places = places_of plane

  abbrev passes : ℕ → Pass
  passes = passes_in feeder ps

  abbrev rows : List (List Known)
  rows = rows_in feeder ps

  abbrev lists : List (List Entry)
  lists = is.entries.lists

  rows_are : rows_of (all_holders feeder ps) ≡ rows
  rows_are = ap (λ (known : List (List Known)). feeder.trail.known ∷ known) (rows_same ps)

  each : AllFrom (IsListOf places rows) 0 lists
  each = subst (λ us. AllFrom (IsListOf places us) 0 lists) rows_are is.entries.each

  of_ports : Every (IsPortOf plane) ps
  of_ports = every_append (IsPortOf plane) ports closed all.speak all.spoke

  whole : ℕ → List Entry
  whole k = list_of (slice_get lists k)

  -- the list of a place
  record IsWhole (k : ℕ) : Type 0 where
    list : List Entry
    at : slice_get lists k ≡ Some list
    same : whole k ≡ list
    of : IsListOf places rows k list

  whole_at : (k : ℕ) → k < places → IsWhole k
  unfolding whole
  whole_at k few =
      let l = item_at lists k (omega (arith, few, is.entries.as_many)) in
      record {
        list = l.0;
        at = l.1;
        same = ap list_of l.1;
        of = subst (λ n. IsListOf places rows n l.0) (omega arith)
            (from_at (IsListOf places rows) 0 k lists l.0 each l.1);
      }

  -- ---- numbers of passes

  port_pass_at : (q : ℕ) → list_any (nat_eq q) order ≡ true → passes q ≡ pass_among ps q
  port_pass_at q there =
      of_port feeder ps q (not_feeder order q all.set_up.no_feeder there)

  -- a row of the pass with this number
  record PassRow (k p : ℕ) (list : List Entry) : Type 0 where
    known : List Known
    of : IsKnownOf plane known
    begins : Begins k list known
    shares : seen_at passes k p ≡ shares_of known k

  port_row : (k p : ℕ) (list : List Entry) → IsListOf places rows k list →
      list_any (nat_eq p) order ≡ true → PassRow k p list
  port_row k p list l there =
      let f = found (λ o n. (n ≡ o) × (IsKnownOf plane o.trail.known
      × Begins k list o.trail.known)) (λ o n so. ap (λ (x : PortView). x.port) so.0) p ps ps
      (all_self (λ (o : PortView). IsKnownOf plane o.trail.known × Begins k list o.trail.known) ps
      (ports_begin plane k list ps of_ports l.begins.1))
      (let one : times_in p ps ≡ 1 = all.each p there in omega (arith, one)) in
      record {
        known = f.old.trail.known;
        of = f.so.1.0;
        begins = f.so.1.1;
        shares = ap (λ (x : Pass). x.shares k) (port_pass_at p there ∙ f.had);
      }

  pass_row : (k p : ℕ) (list : List Entry) → IsListOf places rows k list →
      is_pass order p ≡ true → PassRow k p list
  pass_row k p list l there = elim (cases_Bool (p == feeder_number)) [
    | inl so ↦ record {
      known = feeder.trail.known;
      of = feeder_known plane feeder all.feeds;
      begins = l.begins.0;
      shares = ap (λ (x : Pass). x.shares k) (of_feeder feeder ps p so);
    }
    | inr other ↦ port_row k p list l (port_number order p there other)
  ]

  -- ---- a place's list

  -- each goes on to the list
  record GoesOn (k p : ℕ) : Type 0 where
    rest : List Entry
    begins : whole k ≡ entries (seen_at passes k p) ++ rest

  goes_on : (k p : ℕ) → k < places → is_pass order p ≡ true → GoesOn k p
  goes_on k p few there =
      let w = whole_at k few in
      let r = pass_row k p w.list w.of there in
      let b = row_begins plane k w.list r.known few r.of r.begins in
      record {
        rest = b.0;
        begins = w.same ∙ b.1 ∙ ap (λ xs. entries xs ++ b.0) (sym r.shares);
      }

  rest_by : (k p : ℕ) → k < places → (is_pass order p ≡ true) ⊎ (is_pass order p ≡ false) →
      List Entry
  rest_by k p few (inl so) = (goes_on k p few so).rest
  rest_by k p few (inr none) = []

  begins_by : (k p : ℕ) (few : k < places)
      (x : (is_pass order p ≡ true) ⊎ (is_pass order p ≡ false)) → is_pass order p ≡ true →
      whole k ≡ entries (seen_at passes k p) ++ rest_by k p few x
  unfolding rest_by
  begins_by k p few (inl so) there = (goes_on k p few so).begins
  begins_by k p few (inr none) there = absurd (cc (sym there ∙ none))

  abbrev IsOwned : ℕ → ℕ → Entry → Type 0
  IsOwned k i e =
      (p : ℕ) × (is_pass order p ≡ true) × (slice_get (seen_at passes k p) i ≡ Some (Ours e))

  owned_in : (k i : ℕ) (list : List Entry) (e : Entry) (n : ℕ) (known : List Known) →
      k < places → IsListOf places rows k list → slice_get list i ≡ Some e →
      slice_get rows n ≡ Some known → 0 < own_at (is_place i) k known → IsOwned k i e
  owned_in k i list e zero known few l at there some = (
    feeder_number,
    in_first feeder_number order,
    row_owns plane k list feeder.trail.known few (feeder_known plane feeder all.feeds) l.begins.0 i
        e at
        (subst (λ us. 0 < own_at (is_place i) k us)
        (sym (one_of feeder.trail.known known there)) some),
  )
  owned_in k i list e (suc n) known few l at there some =
      let m = map_item ps n known there in
      let p = m.0 in
      let so = every_at (λ (o : PortView). IsKnownOf plane o.trail.known
      × Begins k list o.trail.known) ps n p (ports_begin plane k list ps of_ports l.begins.1)
      m.1.0 in
      let mine : list_any (nat_eq p.port) order ≡ true =
      every_at (λ (o : PortView). list_any (nat_eq o.port) order ≡ true) ps n p
      (ports_in order ps all.nobody) m.1.0 in
      let shares : seen_at passes k p.port ≡ shares_of p.trail.known k =
      ap (λ (x : Pass). x.shares k) (port_pass_at p.port mine
      ∙ among_at ps n p m.1.0 (all.each p.port mine)) in (
        p.port,
        in_longer p.port feeder_number order mine,
        ap (λ xs. slice_get xs i) shares
            ∙ row_owns plane k list p.trail.known few so.0 so.1 i e at
            (subst (λ us. 0 < own_at (is_place i) k us) (sym m.1.1) some),
      )

  owned_at : (k i : ℕ) (e : Entry) → k < places → slice_get (whole k) i ≡ Some e → IsOwned k i e
  owned_at k i e few at =
      let w = whole_at k few in
      let there : slice_get w.list i ≡ Some e = ap (λ es. slice_get es i) (sym w.same) ∙ at in
      let o = owners places k i rows w.list w.of (slice_get_within w.list i e there) in
      owned_in k i w.list e o.0 o.1.0 few w.of there o.1.1.0 o.1.1.1

  covered : (k : ℕ) → k < places → IsCovered (is_pass order) (seen_at passes k) (whole k)
  covered k few = record {
    rest = λ p. rest_by k p few (cases_Bool (is_pass order p));
    begins = λ p there. begins_by k p few (cases_Bool (is_pass order p)) there;
    owned = record { owned = λ i e at. owned_at k i e few at };
  }

  -- ---- queues

  some_places : 0 < places
  some_places = omega (arith, plane.shared.some, plane.shared.sized)

  same_history : (queue : ℕ) → history queue h.entries ≡ history queue
      (whole (place_for queue places))
  same_history queue =
      let w = whole_at (place_for queue places) (mod-lt queue some_places) in
      of_place places queue (place_for queue places) rows lists w.list h.entries each
      is.entries.grouped
      refl w.at
      ∙ ap (history queue) (sym w.same)

  known_queue : (k i : ℕ) (list : List Entry) (e : Entry) → IsListOf places rows k list →
      slice_get lists k ≡ Some list → slice_get list i ≡ Some e → e.queue < queue_count
  known_queue k i list e l there at = elim (cases_lt e.queue queue_count) [
    | inl low ↦ low
    | inr high ↦ absurd (has_one list i e at (sym (of_place places e.queue k rows lists list
        h.entries each is.entries.grouped
        (every_at (λ (f : Entry). place_for f.queue places ≡ k) list i e
        (every_of (λ (f : Entry). place_for f.queue places ≡ k) list l.here) at) there)
        ∙ none_high queue_count e.queue h.entries
        (every_of (λ (f : Entry). f.queue < queue_count) h.entries queues) high))
  ]

  all_queues : (k : ℕ) → k < places → EachIs (λ (e : Entry). e.queue < queue_count) (whole k)
  all_queues k few =
      let w = whole_at k few in
      subst (EachIs (λ (e : Entry). e.queue < queue_count)) (sym w.same)
      (each_by_place (λ (e : Entry). e.queue < queue_count) w.list
      (λ i e at. known_queue k i w.list e w.of w.at at))

  -- ---- logs

  all_logs : h.logs ≡ map (log_by passes) order
  all_logs = is.logs ∙ logs_same (log_among ps) (log_by passes) order
      (λ q there. ap (log_with q)
      (dids_same ps q ∙ sym (ap (λ (x : Pass). x.dids) (port_pass_at q there))))

  -- ---- what a port received

  record PortHeard (port : ℕ) : Type 0 where
    receiver : ReceiverView
    heard : HasHeardOf h.entries rows port receiver
    letters : (passes port).letters ≡ map (λ (post : Post). post.letter) receiver.received
    capacity : receiver.mailbox.capacity ≡ (setting_of plane).mail

  port_heard : (port : ℕ) → list_any (nat_eq port) order ≡ true → PortHeard port
  port_heard port there =
      let f = found (λ o n. (n ≡ o) × (IsPortOf plane o
      × HasHeardOf h.entries rows o.port o.receiver))
      (λ o n so. ap (λ (x : PortView). x.port) so.0) port ps ps
      (all_self (λ (o : PortView). IsPortOf plane o × HasHeardOf h.entries rows o.port o.receiver)
      ps (ports_heard plane h.entries rows ps of_ports
      (subst (λ us. Every (λ (p : PortReceiver). HasHeardOf h.entries us p.port p.receiver)
      (map receiver_of ps)) rows_are is.entries.heard)))
      (let one : times_in port ps ≡ 1 = all.each port there in omega (arith, one)) in
      record {
        receiver = f.old.receiver;
        heard = subst (λ n. HasHeardOf h.entries rows n f.old.receiver) f.number f.so.1.1;
        letters = ap (λ (x : Pass). x.letters) (port_pass_at port there ∙ f.had);
        capacity = subst (λ o. IfSome o (λ (m : MailboxView).
            m.capacity ≡ (setting_of plane).mail)) f.so.1.0.mailbox
            (all.set_up.capacity f.old.port);
      }

  all_heard : (port queue : ℕ) → list_any (nat_eq port) order ≡ true →
      sent_by_all order places passes port ≡ length (passes port).letters →
      letters_from port None (history queue h.entries)
      ≡ filter (is_from queue) (passes port).letters
  all_heard port queue there many =
      let p = port_heard port there in
      sym (notices_are port queue h.entries)
      ∙ sym (p.heard.all (sent port ∙ many ∙ ap (λ (ls : List Letter). length ls) p.letters
      ∙ length-map p.receiver.received (λ (post : Post). post.letter)) queue)
      ∙ ap (filter (is_from queue)) (sym p.letters)

  all_room : (port queue : ℕ) → list_any (nat_eq port) order ≡ true →
      some_lacks port None (history queue h.entries) ≡ true →
      (setting_of plane).mail ≤ sent_by_all order places passes port
  all_room port queue there lacks =
      let p = port_heard port there in
      let room = p.heard.room queue (lacks_some port queue h.entries lacks) in
      omega (arith, room, p.capacity, sent port)

  pub closed_plane : IsClosedPlane (order_of plane) (setting_of plane).mail (places_of plane)
      (passes_in feeder (ports ++ closed)) h
  closed_plane = record {
    whole = whole;
    covered = covered;
    queues = all_queues;
    same = same_history;
    logs = all_logs;
    all = all_heard;
    room = all_room;
  }
