-- Lists with times: those of places that ended, as rows know them.
use Rattle.std.proofs.Common.{◌≡◌, ◌<◌, ◌≤◌, ◌+◌, ℕ, zero, suc, List, [], ◌∷◌, length, refl, sym}
use Rattle.std.proofs.Common.{ap, ◌∙◌, subst, arith, inl, inr}
use Rattle.std.specs.Prelude.{slice_get, Option, Some, None, option_map, IfSome, sum_by}
use Rattle.std.specs.List.{range_with_len}
use mathlib.Core.List.{IsPrefix}
use Rattle.std.proofs.lemmas.List.Sums.{sum_by-cons}
use Rattle.std.proofs.lemmas.Bool.{cases_Bool, eqb-true, eqb-false}
use Rattle.std.specs.Prelude.{nat_eq}
use Rattle.turn_lock.specs.Places.{In}
use Rattle.histories.specs.declared.entry.Entry.{Entry}
use Rattle.histories.specs.History.{AreLegal}
use Rattle.total_order.specs.Orders.{EachIs, Pairs, untimed}
use Rattle.place_history.specs.PlaceState.{AreHere}
use Rattle.locked_place.specs.Times.{timed, Rise, AreTimed, plain_view}
use Rattle.place_rows.specs.Lists.{Every, AllFrom}
use Rattle.place_rows.specs.Rows.{TimedKnown}
use Rattle.place_rows.specs.Joining.{AllJoined, Begins, own_at, own_sum, is_place}
use Rattle.place_rows.specs.Timed.{IsTimedListAt, IsTimedListOf, IsOwnAt}
use Rattle.place_rows.specs.Timed.{seen_by}
use Rattle.place_rows.proofs.Lists.{one_item}
use Rattle.place_rows.proofs.PlainRows.{item_mapped, prefix_mapped}
use Rattle.place_rows.proofs.RowJoins.{all_begin, all_own}
use Rattle.place_rows.proofs.EntryOwners.{at_other, own_once, owner}

-- ---- things and their times

-- what was given times is the same without them
pub untimed_timed : {A : Type 0} (xs : List A) (ts : List ℕ) → length ts ≡ length xs →
    untimed (timed xs ts) ≡ xs
untimed_timed [] ts many = refl
untimed_timed (x ∷ xs) [] many = absurd (omega (arith, many))
untimed_timed (x ∷ xs) (t ∷ ts) many =
    ap (λ (l : List _). x ∷ l) (untimed_timed xs ts (omega (arith, many)))

-- and as many
pub timed_long : {A : Type 0} (xs : List A) (ts : List ℕ) → length ts ≡ length xs →
    length (timed xs ts) ≡ length xs
timed_long [] ts many = refl
timed_long (x ∷ xs) [] many = absurd (omega (arith, many))
timed_long (x ∷ xs) (t ∷ ts) many = omega (arith, timed_long xs ts (omega (arith, many)))

-- times that rise from this one on are not below it
none_earlier : {A : Type 0} (low low' high : ℕ) (xs : List A) (ts : List ℕ) → low ≤ low' →
    Rise low' ts high → EachIs (λ y. low ≤ y.1) (timed xs ts)
none_earlier low low' high [] ts less rise = tt
none_earlier low low' high (x ∷ xs) [] less rise = tt
none_earlier low low' high (x ∷ xs) (t ∷ ts) less rise = (
  omega (arith, less, rise.0),
  none_earlier low t high xs ts (omega (arith, less, rise.0)) rise.1,
)

-- so none descends
pub none_descends : {A : Type 0} (low high : ℕ) (xs : List A) (ts : List ℕ) → Rise low ts high →
    Pairs (λ x y. x.1 ≤ y.1) (timed xs ts)
none_descends low high [] ts rise = tt
none_descends low high (x ∷ xs) [] rise = tt
none_descends low high (x ∷ xs) (t ∷ ts) rise = (
  none_earlier t t high xs ts (omega arith) rise.1,
  none_descends t high xs ts rise.1,
)

-- ---- the list of a place that ended

-- a list with times, whose entries are these
pub record TimedEnd (places : ℕ) (us : List TimedKnown) (n : ℕ) (es : List Entry)
    (list : List (Entry × ℕ)) : Type 0 where
  pub same : untimed list ≡ es
  pub is : IsTimedListAt places us n list

-- the list that a place left
pub place_ended : (places n latest : ℕ) (us : List TimedKnown) (u : TimedKnown) (es : List Entry)
    (ts : List ℕ) → slice_get us n ≡ Some u → IsPrefix u.seen (timed es ts) →
    u.own ≡ range_with_len 0 (length es) → AreHere places n es → AreLegal es →
    AreTimed es ts latest → TimedEnd places us n es (timed es ts)
place_ended places n latest us u es ts at begins own here legal in_time =
    let same = untimed_timed es ts in_time.as_many in
    let long = timed_long es ts in_time.as_many in
    record {
      same = same;
      is = record {
        plain = record {
          all = plain_view u;
          at = item_mapped plain_view us n u at;
          begins = prefix_mapped (λ (x : Entry × ℕ). x.0) u.seen (timed es ts) begins;
          own = own ∙ ap (λ (l : List Entry). range_with_len 0 (length l)) (sym same);
          here = subst (AreHere places n) (sym same) here;
          legal = subst AreLegal (sym same) legal;
        };
        all = u;
        at = at;
        begins = begins;
        own = own ∙ ap (range_with_len 0) (sym long);
        rise = none_descends 0 latest es ts in_time.rise;
      };
    }

-- ---- each entry is one row's own

-- what holds of each holds of the one with this number
every_at : {X : Type 0} (P : X → Type 0) (xs : List X) (n : ℕ) (x : X) → Every P xs →
    slice_get xs n ≡ Some x → P x
every_at P [] n x all at = absurd (cc at)
every_at P (y ∷ xs) zero x all at = subst P (one_item y x at) all.0
every_at P (y ∷ xs) (suc n) x all at = every_at P xs n x all.1 at

-- what a row has seen begins the list, where it has a pass there
seen_begins : (list : List (Entry × ℕ)) (o : Option TimedKnown) →
    IfSome (option_map (λ (v : TimedKnown). v.seen) o) (λ seen. IsPrefix seen list) →
    IsPrefix (seen_by o) list
seen_begins list None begins = (list, refl)
seen_begins list (Some v) begins = begins

-- a number that is counted among these is one of them
is_among : (i : ℕ) (ks : List ℕ) → 0 < sum_by (is_place i) ks → In i ks
is_among i [] some = absurd (omega (arith, some))
is_among i (k ∷ ks) some =
    elim (cases_Bool (nat_eq k i)) [
      | inl h ↦ inl (sym (eqb-true k i h))
      | inr h ↦ inr (is_among i ks (omega (
        arith,
        some,
        sum_by-cons (is_place i) k ks,
        at_other i k (eqb-false k i h),
      )))
    ]

-- an entry that is counted among a row's own is its own
own_there : (row : List TimedKnown) (k i : ℕ) → 0 < own_at (is_place i) k row → IsOwnAt row k i
own_there row k i some = inner (slice_get row k) refl some
  where
    inner : (o : Option TimedKnown) → slice_get row k ≡ o → 0 < own_sum (is_place i) o →
        IsOwnAt row k i
    inner None is none = absurd (omega (arith, none))
    inner (Some v) is one = record { pass = v; there = is; own = is_among i v.own one }

-- the list as all rows know it
pub timed_list_of : (places k : ℕ) (vs us : List TimedKnown) (rows : List (List TimedKnown))
    (list : List (Entry × ℕ)) → AllJoined rows vs us → IsTimedListAt places us k list →
    IsTimedListOf places (vs ∷ rows) k list
timed_list_of places k vs us rows list joined is =
    let begins = all_begin k vs us rows is.all list joined is.at is.begins in
    record {
      begins = λ n row at.
          seen_begins list (slice_get row k) (every_at (Begins k list) (vs ∷ rows) n row begins at);
      owned = λ i few.
          let once = own_once (vs ∷ rows) k (length list) i
          (all_own k vs us rows is.all (range_with_len 0 (length list)) joined is.at is.own) few in
          let one = owner (own_at (is_place i) k) (vs ∷ rows) (omega (arith, once)) in
          record {
            which = one.0;
            row = one.1.0;
            at = one.1.1.0;
            own = own_there one.1.0 k i one.1.1.1;
          };
      here = is.plain.here;
      rise = is.rise;
    }

-- the lists of all places
pub timed_lists_of : (places n : ℕ) (vs us : List TimedKnown) (rows : List (List TimedKnown))
    (lists : List (List (Entry × ℕ))) → AllJoined rows vs us →
    AllFrom (IsTimedListAt places us) n lists → AllFrom (IsTimedListOf places (vs ∷ rows)) n lists
timed_lists_of places n vs us rows [] joined all = tt
timed_lists_of places n vs us rows (l ∷ ls) joined all = (
  timed_list_of places n vs us rows l joined all.0,
  timed_lists_of places (n + 1) vs us rows ls joined all.1,
)
