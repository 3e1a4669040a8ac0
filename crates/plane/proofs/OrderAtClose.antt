-- One order of all, once nothing more happens: each entry of a place's list is one row's own, which
-- knows what the entry rests on, and of each two entries of one row which may come first.
use Rattle.std.proofs.Common.{◌≡◌, ◌<◌, ◌≤◌, ◌+◌, ℕ, zero, suc, List, [], ◌∷◌, refl, sym, ap}
use Rattle.std.proofs.Common.{subst, ◌∙◌, arith, length, inl, inr}
use Rattle.std.proofs.Common.{get_or, mod-lt}
use Rattle.std.specs.Prelude.{slice_get, Option, Some, None, option_map, map, All, ◌⊎◌}
use Rattle.std.proofs.lemmas.Bool.{cases_lt, cases_eq}
use Rattle.std.proofs.lemmas.List.Elements.{All-head, All-tail}
use Rattle.std.proofs.lemmas.Option.{slice_get-map, slice_get_within, slice_get_cases}
use Rattle.std.proofs.lemmas.Option.{slice_get-get_or}
use mathlib.Core.List.{IsPrefix}
use Rattle.turn_lock.specs.Places.{Ascends, In}
use Rattle.turn_lock.specs.Views.{HasSeenOwn}
use Rattle.queue_core.specs.declared.event.Event.{Event}
use Rattle.queue_core.specs.declared.event.Event.TheVariants.{Arrive, Ask, PortClosed, DeviceDown}
use Rattle.histories.specs.declared.entry.Entry.{Entry}
use Rattle.histories.specs.declared.histories.Histories.{Histories}
use Rattle.histories.specs.declared.log.PortLog.{PortLog}
use Rattle.histories.specs.History.{history}
use Rattle.histories.specs.Places.{place_for}
use Rattle.total_order.specs.Orders.{EachIs, untimed, Pairs}
use Rattle.total_order.specs.Places.{AreTimedLists, IsKnownAs}
use Rattle.total_order.specs.Steps.{InLogOrderAs, log_of, Step}
use Rattle.total_order.specs.TotalOrder.{InLogOrder}
use Rattle.place_rows.specs.Lists.{AllFrom}
use Rattle.place_rows.specs.Rows.{TimedKnown}
use Rattle.place_rows.specs.Timed.{IsOwnAt, IsOwnOfOne, IsPostedIn, IsTimedListOf, seen_by, seen_in}
use Rattle.place_turns.specs.Timely.{AreTimely, Holder, IsOwn, RestsOn}
use Rattle.plane.proofs.KnownEvents.{list_in, list_of, rest_known, steps_of}
use Rattle.plane.proofs.RowSplits.{some_same}
use Rattle.plane.proofs.TimedSteps.{each_by, each_step, entries_of, get_front, step_at, step_is}
use Rattle.plane.proofs.TimedSteps.{steps, steps_rise}

-- ---- lists

-- what a list of images has at a number is the image of what is there
get_mapped : {A B : Type 0} (f : A → B) (xs : List A) (n : ℕ) (y : B) →
    slice_get (map f xs) n ≡ Some y → (x : A) × (slice_get xs n ≡ Some x) × (f x ≡ y)
get_mapped f [] n y there = absurd (cc there)
get_mapped f (x ∷ xs) zero y there = (x, refl, some_same (f x) y there)
get_mapped f (x ∷ xs) (suc n) y there = get_mapped f xs n y there

-- what is so from number n on is so of each
get_from : {A : Type 0} (P : ℕ → A → Type 0) (n k m : ℕ) (xs : List A) (x : A) → n + k ≡ m →
    AllFrom P n xs → slice_get xs k ≡ Some x → P m x
get_from P n k m [] x sum all there = absurd (cc there)
get_from P n zero m (y ∷ xs) x sum all there =
    let same : n ≡ m = omega (arith, sum) in
    subst (P m) (some_same y x there) (subst (λ j. P j y) same all.0)
get_from P n (suc k) m (y ∷ xs) x sum all there =
    get_from P (n + 1) k m xs x (omega (arith, sum)) all.1 there

-- numbers of one's own are below the end of what was seen
own_below : (low high i : ℕ) (own : List ℕ) → Ascends low high own → In i own → i < high
own_below low high i [] up is = absurd is
own_below low high i (x ∷ own) up (inl same) =
    let less = up.1.0 in omega (arith, same, less)
own_below low high i (x ∷ own) up (inr is) = own_below (x + 1) high i own up.1.1 is

-- what holds of each entry holds of it with its time
each_untimed : (P : Entry → Type 0) (xs : List (Entry × ℕ)) → All P (untimed xs) →
    EachIs (λ x. P x.0) xs
each_untimed P [] all = tt
each_untimed P (x ∷ xs) all =
    (All-head P x.0 (untimed xs) all, each_untimed P xs (All-tail P x.0 (untimed xs) all))

-- ---- rows

module _ (lists : List (List (Entry × ℕ))) (logs : List PortLog) where
  -- a row of so many places, with its holder: what it keeps, the letters of its port, and its log
  pub record Held : Type 0 where
    pub row : List TimedKnown
    pub as_many : length row ≡ length lists
    pub placed : (k : ℕ) (v : TimedKnown) → slice_get row k ≡ Some v → HasSeenOwn v
    pub clock : ℕ
    pub holder : Holder
    pub timely : AreTimely clock row holder
    pub heard : EachIs (IsPostedIn lists) holder.heard
    pub logged : (port : ℕ) → holder.port ≡ Some port → log_of port logs ≡ holder.dids

  abbrev pub row_in : Held → List TimedKnown
  row_in held = held.row

  -- no two of them are of one port
  abbrev pub AreApart : List Held → Type 0
  AreApart helds = (n m port : ℕ) (x y : Held) → slice_get helds n ≡ Some x →
      slice_get helds m ≡ Some y → x.holder.port ≡ Some port → y.holder.port ≡ Some port → n ≡ m

  -- the position that a row gives an entry of its own
  abbrev position_in : Option Held → ℕ → ℕ → ℕ
  position_in None k i = 0
  position_in (Some held) k i = held.timely.position k i

  -- entries of two rows, neither of which has the other's port
  two_rows : (g h : Held) (e f : Event) (time at later on : ℕ) →
      RestsOn g.row g.holder time at e → RestsOn h.row h.holder later on f →
      ((port : ℕ) → g.holder.port ≡ Some port → h.holder.port ≡ Some port → ⊥) →
      InLogOrderAs e at f on
  two_rows g h (Ask port call request) (Ask other number asked) time at later on one two apart =
      λ same. absurd (apart port one.0 (two.0 ∙ ap Some (sym same)))
  two_rows g h (Ask port call request) (Arrive c b r) time at later on one two apart = tt
  two_rows g h (Ask port call request) (PortClosed p) time at later on one two apart = tt
  two_rows g h (Ask port call request) (DeviceDown d) time at later on one two apart = tt
  two_rows g h (PortClosed port) (Ask other number asked) time at later on one two apart =
      λ same. apart port one.0 (two.0 ∙ ap Some (sym same))
  two_rows g h (PortClosed port) (Arrive c b r) time at later on one two apart = tt
  two_rows g h (PortClosed port) (PortClosed p) time at later on one two apart = tt
  two_rows g h (PortClosed port) (DeviceDown d) time at later on one two apart = tt
  two_rows g h (Arrive c b r) f time at later on one two apart = tt
  two_rows g h (DeviceDown d) f time at later on one two apart = tt

  module _ (helds : List Held)
      (each : AllFrom (IsTimedListOf (length lists) (map row_in helds)) 0 lists) where
    -- what is known of the list of a place
    list_at : (k : ℕ) (list : List (Entry × ℕ)) → slice_get lists k ≡ Some list →
        IsTimedListOf (length lists) (map row_in helds) k list
    list_at k list there =
        get_from (IsTimedListOf (length lists) (map row_in helds)) 0 k k lists list (omega arith)
        each there

    -- ---- positions

    abbrev position : ℕ → ℕ → ℕ → ℕ
    position n = position_in (slice_get helds n)

    -- the position that the owner of an entry gives it
    owner_position : (k : ℕ) (o : Option (List (Entry × ℕ))) → slice_get lists k ≡ o → (i : ℕ) →
        ((i < length (list_in o)) ⊎ (length (list_in o) ≤ i)) → ℕ
    owner_position k None there i c = 0
    owner_position k (Some list) there i (inl less) =
        position ((list_at k list there).owned i less).which k i
    owner_position k (Some list) there i (inr past) = 0

    -- the position of each entry of each place
    pub at : ℕ → ℕ → ℕ
    at k i = owner_position k (slice_get lists k) refl i
        (cases_lt i (length (list_of lists k)))

    -- it is that of one row, whose own the entry is
    position_is : (k : ℕ) (list : List (Entry × ℕ)) (i : ℕ) → i < length list →
        (o : Option (List (Entry × ℕ))) (there : slice_get lists k ≡ o) → o ≡ Some list →
        (c : (i < length (list_in o)) ⊎ (length (list_in o) ≤ i)) →
        (own : IsOwnOfOne (map row_in helds) k i)
        × (owner_position k o there i c ≡ position own.which k i)
    unfolding owner_position
    position_is k list i within None there is c = absurd (cc is)
    position_is k list i within (Some l) there is (inl less) =
        ((list_at k l there).owned i less, refl)
    position_is k list i within (Some l) there is (inr past) =
        let same : length l ≡ length list = ap length (some_same l list is) in
        absurd (omega (arith, same, past, within))

    -- a step of a place: an entry of its list, and who owns it
    record IsStep (k i : ℕ) (s : Step × ℕ) : Type 0 where
      x : Entry × ℕ
      is : step_at (at k) i x ≡ s
      which : ℕ
      held : Held
      there : slice_get helds which ≡ Some held
      own : IsOwn held.row k i x
      at_is : at k i ≡ held.timely.position k i

    -- what is a row's own, and stands in the place's list, the row has seen
    own_seen : (k i : ℕ) (x : Entry × ℕ) (list : List (Entry × ℕ)) (held : Held) →
        IsPrefix (seen_in held.row k) list → slice_get list i ≡ Some x → IsOwnAt held.row k i →
        IsOwn held.row k i x
    own_seen k i x list held begins here own =
        elim ((slice_get_cases own.pass.seen i).1) [
          | inl found ↦ record {
            pass = own.pass;
            there = own.there;
            own = own.own;
            is = found.2 ∙ sym (seen_there found.0 found.2) ∙ here;
          }
          | inr past ↦ (
              let few = own_below 0 (length own.pass.seen) i own.pass.own
              (held.placed k own.pass own.there) own.own in
              let most = past.0 in
              absurd (omega (arith, few, most)))
        ]
      where
        seen_there : (y : Entry × ℕ) → slice_get own.pass.seen i ≡ Some y →
            slice_get list i ≡ Some y
        seen_there y there =
            get_front own.pass.seen list i y
            (subst (λ (l : List (Entry × ℕ)). IsPrefix l list) (ap seen_by own.there) begins) there

    -- each step of a place's list is one
    step_at_place : (k i : ℕ) (s : Step × ℕ) → k < length lists →
        slice_get (steps_of lists at k) i ≡ Some s → IsStep k i s
    unfolding at
    step_at_place k i s within there =
        by (step_is (at k) 0 i i (list_of lists k) s (omega arith) there)
      where
        list : List (Entry × ℕ)
        list = get_or lists k []

        here : slice_get lists k ≡ Some list
        here = slice_get-get_or lists k [] within

        by : (x : Entry × ℕ) × (slice_get (list_of lists k) i ≡ Some x)
            × (step_at (at k) i x ≡ s) → IsStep k i s
        by (x, got, is) =
            let in_list : slice_get list i ≡ Some x =
            subst (λ (l : List (Entry × ℕ)). slice_get l i ≡ Some x) (ap list_in here) got in
            let found = position_is k list i (slice_get_within list i x in_list)
            (slice_get lists k) refl here
            (cases_lt i (length (list_of lists k))) in
            let row = get_mapped row_in helds found.0.which found.0.row found.0.at in
            record {
              x = x;
              is = is;
              which = found.0.which;
              held = row.0;
              there = row.1;
              own = own_seen k i x list row.0
                  (subst (λ (r : List TimedKnown). IsPrefix (seen_in r k) list) (sym row.2)
                  ((list_at k list here).begins found.0.which found.0.row found.0.at))
                  in_list
                  (subst (λ (r : List TimedKnown). IsOwnAt r k i) (sym row.2) found.0.own);
              at_is = found.1 ∙ ap (λ o. position_in o k i) row.1;
            }

    -- ---- what a step rests on

    -- what a row has seen begins the list of its place
    all_begin : (n : ℕ) (held : Held) → slice_get helds n ≡ Some held → (k : ℕ) →
        k < length lists → IsPrefix (seen_in held.row k) (list_of lists k)
    all_begin n held there k within =
        let here = slice_get-get_or lists k [] within in
        subst (λ (l : List (Entry × ℕ)). IsPrefix (seen_in held.row k) l) (sym (ap list_in here))
        ((list_at k (get_or lists k []) here).begins n held.row
        (slice_get-map row_in helds n ∙ ap (option_map row_in) there))

    -- so what a step rests on is known
    step_known : (k i : ℕ) (s : Step × ℕ) → IsStep k i s →
        IsKnownAs (length lists) (steps_of lists at) logs s.1 s.0.at s.0.entry.event
    step_known k i s one =
        subst (λ (z : Step × ℕ). IsKnownAs (length lists) (steps_of lists at) logs z.1 z.0.at
        z.0.entry.event) one.is
        (subst (λ n. IsKnownAs (length lists) (steps_of lists at) logs one.x.1 n one.x.0.event)
        (sym one.at_is)
        (rest_known lists at one.held.row one.held.as_many (all_begin one.which one.held one.there)
        one.held.holder logs one.x.1 (one.held.timely.position k i) one.x.0.event one.held.heard
        one.held.logged (one.held.timely.own k i one.x one.own)))

    -- ---- which of two may come first

    -- two entries of one row
    one_row : (g h : Held) → g ≡ h → (k i j l : ℕ) (x y : Entry × ℕ) → IsOwn g.row k i x →
        IsOwn h.row j l y → ((k ≡ j) × (i ≡ l) → ⊥) → x.1 ≤ y.1 →
        InLogOrderAs x.0.event (g.timely.position k i) y.0.event (h.timely.position j l)
    one_row g h same k i j l x y first second differ order =
        subst (λ (u : Held). IsOwn u.row j l y →
        InLogOrderAs x.0.event (g.timely.position k i) y.0.event (u.timely.position j l)) same
        (λ own. g.timely.kept k i j l x y first own differ order) second

    module _ (apart : AreApart helds) where
      -- of any two entries the one that isn't later may come first
      entries_kept : (k i j l : ℕ) (s t : Step × ℕ) (a : IsStep k i s) (b : IsStep j l t) →
          ((k ≡ j) × (i ≡ l) → ⊥) → a.x.1 ≤ b.x.1 →
          InLogOrderAs a.x.0.event (a.held.timely.position k i) b.x.0.event
          (b.held.timely.position j l)
      entries_kept k i j l s t a b differ order =
          elim (cases_eq a.which b.which) [
            | inl same ↦ one_row a.held b.held
                (some_same a.held b.held
                (sym a.there
                ∙ ap (λ n. slice_get helds n) same ∙ b.there))
                k i j l a.x b.x a.own b.own differ order
            | inr other ↦ two_rows a.held b.held a.x.0.event b.x.0.event a.x.1
                (a.held.timely.position k i) b.x.1 (b.held.timely.position j l)
                (a.held.timely.own k i a.x a.own) (b.held.timely.own j l b.x b.own)
                (λ port one two. other
                (apart a.which b.which port a.held b.held a.there b.there one two))
          ]

      -- and of any two steps
      steps_kept : (k i j l : ℕ) (s t : Step × ℕ) → IsStep k i s → IsStep j l t →
          ((k ≡ j) × (i ≡ l) → ⊥) → s.1 ≤ t.1 → InLogOrder s.0 t.0
      steps_kept k i j l s t a b differ order =
          let one : a.x.1 ≡ s.1 = ap (λ (z : Step × ℕ). z.1) a.is in
          let two : b.x.1 ≡ t.1 = ap (λ (z : Step × ℕ). z.1) b.is in
          let early : a.x.1 ≤ b.x.1 = omega (arith, one, two, order) in
          subst (λ (z : Step × ℕ). InLogOrder z.0 t.0) a.is
          (subst (λ (z : Step × ℕ). InLogOrder (step_at (at k) i a.x).0 z.0) b.is
          (subst (λ n. InLogOrderAs a.x.0.event n b.x.0.event (at j l)) (sym a.at_is)
          (subst (λ n. InLogOrderAs a.x.0.event (a.held.timely.position k i) b.x.0.event n)
          (sym b.at_is) (entries_kept k i j l s t a b differ early))))

      -- ---- all places

      -- the steps of a place are of its queues
      list_here : (k : ℕ) → k < length lists →
          EachIs (λ x. place_for x.0.entry.queue (length lists) ≡ k) (steps_of lists at k)
      list_here k within =
          let here = slice_get-get_or lists k [] within in
          subst (λ (l : List (Entry × ℕ)).
          EachIs (λ x. place_for x.0.entry.queue (length lists) ≡ k) (steps (at k) 0 l))
          (sym (ap list_in here))
          (each_step (λ x. place_for x.0.queue (length lists) ≡ k)
          (λ x. place_for x.0.entry.queue (length lists) ≡ k) (at k) (λ i x is. is) 0
          (get_or lists k [])
          (each_untimed (λ (e : Entry). place_for e.queue (length lists) ≡ k) (get_or lists k [])
          (list_at k (get_or lists k []) here).here))

      -- and their times never descend
      list_rise : (k : ℕ) → k < length lists →
          Pairs (λ x y. x.1 ≤ y.1) (steps_of lists at k)
      list_rise k within =
          let here = slice_get-get_or lists k [] within in
          subst (λ (l : List (Entry × ℕ)). Pairs (λ x y. x.1 ≤ y.1) (steps (at k) 0 l))
          (sym (ap list_in here))
          (steps_rise (at k) 0 (get_or lists k [])
          (list_at k (get_or lists k []) here).rise)

      -- the lists of all places, with what each step rests on
      pub all_timed : (h : Histories) → h.logs ≡ logs → 0 < length lists →
          ((queue : ℕ) (list : List (Entry × ℕ)) →
          slice_get lists (place_for queue (length lists)) ≡ Some list →
          history queue h.entries ≡ history queue (untimed list)) →
          AreTimedLists (length lists) (steps_of lists at) h
      all_timed h logged some same = record {
        some = some;
        each = λ k within. record { here = list_here k within; rise = list_rise k within };
        same = λ queue.
            let here = slice_get-get_or lists (place_for queue (length lists)) []
            (mod-lt queue some) in
            same queue (get_or lists (place_for queue (length lists)) []) here
            ∙ ap (λ (l : List (Entry × ℕ)). history queue (untimed l)) (sym (ap list_in here))
            ∙ ap (history queue) (sym (entries_of (at (place_for queue (length lists))) 0
            (list_of lists (place_for queue (length lists)))));
        known = λ k within.
            each_by (λ x. IsKnownAs (length lists) (steps_of lists at) h.logs x.1 x.0.at
            x.0.entry.event) (steps_of lists at k)
            (λ i s there. subst (λ (ls : List PortLog). IsKnownAs (length lists)
            (steps_of lists at) ls s.1 s.0.at s.0.entry.event) (sym logged)
            (step_known k i s (step_at_place k i s within there)));
        kept = λ k j i l s t one two there here differ order.
            steps_kept k i j l s t (step_at_place k i s one there)
            (step_at_place j l t two here) differ order;
      }
