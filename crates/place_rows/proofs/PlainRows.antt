-- Rows without times: what is known of them goes with what is known with times.
use Rattle.std.proofs.Common.{◌≡◌, ℕ, zero, suc, List, [], ◌∷◌, length, refl, sym}
use Rattle.std.proofs.Common.{ap, ◌∙◌, subst, arith, inl, inr, map, true, false}
use Rattle.std.specs.Prelude.{slice_get, Option, Some, None, option_map, IfSome, sum_by, nat_lt}
use mathlib.Core.List.{IsPrefix}
use Rattle.std.proofs.lemmas.List.{length-map, map-append}
use Rattle.std.proofs.lemmas.List.Sums.{sum_by-cons}
use Rattle.std.proofs.lemmas.Option.{slice_get-map}
use Rattle.std.proofs.lemmas.Bool.{cases_Bool}
use Rattle.turn_lock.specs.declared.view.View.{View}
use Rattle.turn_lock.specs.declared.view.Turn.{Turn}
use Rattle.turn_lock.specs.declared.view.Turn.TheVariants.{Outside, Waits, Served, Joined}
use Rattle.turn_lock.specs.Parts.{Tree, union, cut}
use Rattle.turn_lock.specs.Places.{longer}
use Rattle.turn_lock.specs.Views.{kept_view, split_view, joined_view}
use Rattle.total_order.specs.Orders.{untimed}
use Rattle.locked_place.specs.Times.{plain_view, plain_turn}
use Rattle.place_rows.specs.Lists.{Every}
use Rattle.place_rows.specs.Rows.{AreKnown, IsKnown}
use Rattle.place_rows.specs.Joining.{Joins, RowJoined, AllJoined, JoinedAt, together_at, part_in}
use Rattle.place_rows.specs.Joining.{own_at, own_sum, Begins}
use Rattle.place_rows.specs.Meeting.{Told, ToldUpTo}
use Rattle.place_rows.specs.Opening.{AreFirst}
use Rattle.place_rows.proofs.Lists.{one_item}

-- ---- lists that are mapped

-- an item of a mapped list comes from one
pub mapped_item : {X Y : Type 0} (f : X → Y) (xs : List X) (k : ℕ) (y : Y) →
    slice_get (map f xs) k ≡ Some y → (x : X) × ((slice_get xs k ≡ Some x) × (y ≡ f x))
mapped_item f [] k y at = absurd (cc at)
mapped_item f (x ∷ xs) zero y at = (x, (refl, sym (one_item (f x) y at)))
mapped_item f (x ∷ xs) (suc k) y at = mapped_item f xs k y at

-- and is there with it
pub item_mapped : {X Y : Type 0} (f : X → Y) (xs : List X) (k : ℕ) (x : X) →
    slice_get xs k ≡ Some x → slice_get (map f xs) k ≡ Some (f x)
item_mapped f xs k x at = slice_get-map f xs k ∙ ap (option_map f) at

-- what begins a list begins it mapped
pub prefix_mapped : {X Y : Type 0} (f : X → Y) (xs ys : List X) → IsPrefix xs ys →
    IsPrefix (map f xs) (map f ys)
prefix_mapped f xs ys begins =
    (map f begins.0, sym (map-append f xs begins.0) ∙ ap (map f) begins.1)

module _ {E : Type 0} where
  -- the longer of two lists is so without times
  pub longer_untimed : (xs ys : List (E × ℕ)) →
      untimed (longer xs ys) ≡ longer (untimed xs) (untimed ys)
  longer_untimed xs ys =
      let one : length (untimed xs) ≡ length xs = length-map xs (λ (x : E × ℕ). x.0) in
      let two : length (untimed ys) ≡ length ys = length-map ys (λ (x : E × ℕ). x.0) in
      elim (cases_Bool (nat_lt (length xs) (length ys))) [
        | inl h ↦ (let same : nat_lt (length (untimed xs)) (length (untimed ys)) ≡ true =
            ap (λ n. nat_lt n (length (untimed ys))) one ∙ ap (nat_lt (length xs)) two ∙ h in
            rw (h, same) refl)
        | inr h ↦ (let same : nat_lt (length (untimed xs)) (length (untimed ys)) ≡ false =
            ap (λ n. nat_lt n (length (untimed ys))) one ∙ ap (nat_lt (length xs)) two ∙ h in
            rw (h, same) refl)
      ]

  -- a pass that is between turns is so with times
  pub outside_timed : (t : Turn (E × ℕ)) → plain_turn t ≡ Outside → t ≡ Outside
  outside_timed Outside is = refl
  outside_timed (Waits ticket) is = absurd (cc is)
  outside_timed (Served ticket list) is = absurd (cc is)
  outside_timed (Joined one other own others) is = absurd (cc is)

module _ {E S : Type 0} where
  abbrev pub plain_row : List (View (E × ℕ) S) → List (View E S)
  plain_row row = map plain_view row

  -- ---- known, opened, split

  -- passes are known so without times
  pub known_plain : {L : Type 0} (label : S → L) (named : ℕ → L) (row : List (View (E × ℕ) S)) →
      AreKnown label named row → AreKnown label named (plain_row row)
  known_plain label named row known = λ k v at.
      let here = mapped_item plain_view row k v at in
      let is = known k here.0 here.1.0 in
      subst (IsKnown label (named k)) (sym here.1.1)
      (record {
        outside = ap plain_turn is.outside;
        named_so = is.named_so;
        normal = is.normal;
        live = is.live;
      })

  -- and with times where they are so without
  pub known_timed : {L : Type 0} (label : S → L) (named : ℕ → L) (row : List (View (E × ℕ) S)) →
      AreKnown label named (plain_row row) → AreKnown label named row
  known_timed label named row known = λ k v at.
      let is = known k (plain_view v) (item_mapped plain_view row k v at) in
      record {
        outside = outside_timed v.turn is.outside;
        named_so = is.named_so;
        normal = is.normal;
        live = is.live;
      }

  -- first passes are first without times
  pub first_plain : (row : List (View (E × ℕ) S)) → AreFirst row → AreFirst (plain_row row)
  first_plain [] all = tt
  first_plain (v ∷ row) all = (
    record {
      none_seen = ap (λ (xs : List (E × ℕ)). untimed xs) all.0.none_seen;
      none_own = all.0.none_own;
      whole = all.0.whole;
    },
    first_plain row all.1,
  )

  -- a row that was split
  pub kept_plain : (row : List (View (E × ℕ) S)) →
      plain_row (map kept_view row) ≡ map kept_view (plain_row row)
  kept_plain [] = refl
  kept_plain (v ∷ row) =
      ap (λ (l : List (View E S)). plain_view (kept_view v) ∷ l) (kept_plain row)

  -- and what was split off it
  pub split_plain : (row : List (View (E × ℕ) S)) →
      plain_row (map split_view row) ≡ map split_view (plain_row row)
  split_plain [] = refl
  split_plain (v ∷ row) =
      ap (λ (l : List (View E S)). plain_view (split_view v) ∷ l) (split_plain row)

  -- ---- joined

  -- what a joined pass knows
  view_joined : (v w : View (E × ℕ) S) →
      plain_view (joined_view v w) ≡ joined_view (plain_view v) (plain_view w)
  view_joined v w =
      ap (λ (seen : List E). record (joined_view (plain_view v) (plain_view w)) { seen = seen })
      (longer_untimed v.seen w.seen)

  -- one pass is joined into another
  joins_plain : (from into after : View (E × ℕ) S) → Joins from into after →
      Joins (plain_view from) (plain_view into) (plain_view after)
  joins_plain from into after joins = record {
    is = ap plain_view joins.is ∙ view_joined into from;
    first = prefix_mapped (λ (x : E × ℕ). x.0) into.seen after.seen joins.first;
    second = prefix_mapped (λ (x : E × ℕ). x.0) from.seen after.seen joins.second;
    apart = joins.apart;
  }

  same_at : (xs ys : List (View (E × ℕ) S)) (k : ℕ) → slice_get xs k ≡ slice_get ys k →
      slice_get (plain_row xs) k ≡ slice_get (plain_row ys) k
  same_at xs ys k same =
      slice_get-map plain_view xs k ∙ ap (option_map plain_view) same
      ∙ sym (slice_get-map plain_view ys k)

  same_long : (xs ys : List (View (E × ℕ) S)) → length xs ≡ length ys →
      length (plain_row xs) ≡ length (plain_row ys)
  same_long xs ys same = length-map xs plain_view ∙ same ∙ sym (length-map ys plain_view)

  -- a row is joined into another
  pub joined_plain : (n : ℕ) (intos froms afters : List (View (E × ℕ) S)) →
      RowJoined n intos froms afters →
      RowJoined n (plain_row intos) (plain_row froms) (plain_row afters)
  joined_plain n intos froms afters row = record {
    done = λ k v w most at also.
        let one = mapped_item plain_view intos k v at in
        let two = mapped_item plain_view froms k w also in
        let done = row.done k one.0 two.0 most one.1.0 two.1.0 in
        record {
          after = plain_view done.after;
          at = item_mapped plain_view afters k done.after done.at;
          turns = subst (λ (x : View E S). Joins w x (plain_view done.after)) (sym one.1.1)
              (subst (λ (x : View E S). Joins x (plain_view one.0) (plain_view done.after))
              (sym two.1.1) (joins_plain two.0 one.0 done.after done.turns));
        };
    rest = λ k few. same_at afters intos k (row.rest k few);
    both = same_long froms intos row.both;
    as_many = same_long afters intos row.as_many;
  }

  -- ---- several rows

  abbrev pub plain_rows : List (List (View (E × ℕ) S)) → List (List (View E S))
  plain_rows rows = map plain_row rows

  part_plain : (o : Option (View (E × ℕ) S)) → part_in (option_map plain_view o) ≡ part_in o
  part_plain None = refl
  part_plain (Some v) = refl

  -- parts put together are the same
  together_plain : (k : ℕ) (t : Tree) (rows : List (List (View (E × ℕ) S))) →
      together_at k t (plain_rows rows) ≡ together_at k t rows
  together_plain k t [] = refl
  together_plain k t (row ∷ rows) =
      ap (λ (p : Tree). together_at k (union t p) (plain_rows rows))
      (ap part_in (slice_get-map plain_view row k) ∙ part_plain (slice_get row k))
      ∙ together_plain k (union t (part_in (slice_get row k))) rows

  own_plain : (f : ℕ → ℕ) (o : Option (View (E × ℕ) S)) →
      own_sum f (option_map plain_view o) ≡ own_sum f o
  own_plain f None = refl
  own_plain f (Some v) = refl

  -- and so are own entries
  owns_plain : (f : ℕ → ℕ) (k : ℕ) (rows : List (List (View (E × ℕ) S))) →
      sum_by (own_at f k) (plain_rows rows) ≡ sum_by (own_at f k) rows
  owns_plain f k [] = refl
  owns_plain f k (row ∷ rows) =
      omega (
        arith,
        owns_plain f k rows,
        ap (own_sum f) (slice_get-map plain_view row k),
        own_plain f (slice_get row k),
        sum_by-cons (own_at f k) (plain_row row) (plain_rows rows),
        sum_by-cons (own_at f k) row rows,
      )

  begins_one : (list : List (E × ℕ)) (o : Option (View (E × ℕ) S)) →
      IfSome (option_map (λ (v : View (E × ℕ) S). v.seen) o) (λ seen. IsPrefix seen list) →
      IfSome (option_map (λ (v : View E S). v.seen) (option_map plain_view o))
      (λ seen. IsPrefix seen (untimed list))
  begins_one list None begins = tt
  begins_one list (Some v) begins = prefix_mapped (λ (x : E × ℕ). x.0) v.seen list begins

  -- what rows have seen of a place begins its list
  begins_plain : (k : ℕ) (list : List (E × ℕ)) (rows : List (List (View (E × ℕ) S))) →
      Every (Begins k list) rows → Every (Begins k (untimed list)) (plain_rows rows)
  begins_plain k list [] all = tt
  begins_plain k list (row ∷ rows) all = (
    subst (λ (o : Option (View E S)). IfSome (option_map (λ (v : View E S). v.seen) o)
        (λ seen. IsPrefix seen (untimed list)))
        (sym (slice_get-map plain_view row k)) (begins_one list (slice_get row k) all.0),
    begins_plain k list rows all.1,
  )

  long_plain : (rows : List (List (View (E × ℕ) S))) (intos : List (View (E × ℕ) S)) →
      Every (λ known. length known ≡ length intos) rows →
      Every (λ (known : List (View E S)). length known ≡ length (plain_row intos)) (plain_rows rows)
  long_plain [] intos all = tt
  long_plain (row ∷ rows) intos all = (same_long row intos all.0, long_plain rows intos all.1)

  -- several rows are joined into one
  pub all_plain : (rows : List (List (View (E × ℕ) S))) (intos afters : List (View (E × ℕ) S)) →
      AllJoined rows intos afters →
      AllJoined (plain_rows rows) (plain_row intos) (plain_row afters)
  all_plain rows intos afters joined = record {
    rows_are = long_plain rows intos joined.rows_are;
    each = λ k v at.
        let one = mapped_item plain_view intos k v at in
        let done = joined.each k one.0 one.1.0 in
        record {
          after = plain_view done.after;
          at = item_mapped plain_view afters k done.after done.at;
          turns = subst (λ (x : View E S). JoinedAt k (plain_rows rows) x (plain_view done.after))
              (sym one.1.1)
              (record {
                part = done.turns.part ∙ sym (together_plain k one.0.part rows);
                own = λ f. omega (arith, done.turns.own f, owns_plain f k rows);
                first = prefix_mapped (λ (x : E × ℕ). x.0) one.0.seen done.after.seen
                    done.turns.first;
                begins = begins_plain k done.after.seen rows done.turns.begins;
              });
        };
    as_many = same_long afters intos joined.as_many;
  }

  -- ---- told

  -- one pass tells another
  told_one : (from into from_then into_then : View (E × ℕ) S) →
      Told from into from_then into_then →
      Told (plain_view from) (plain_view into) (plain_view from_then) (plain_view into_then)
  told_one from into from_then into_then told = record {
    first = ap plain_view told.first;
    second = ap plain_view told.second
        ∙ ap (λ (seen : List E). record (plain_view into) {
          seen = seen;
          part = union into.part (cut from.part);
        }) (longer_untimed into.seen from.seen);
    begins = prefix_mapped (λ (x : E × ℕ). x.0) from.seen into_then.seen told.begins;
    behind = prefix_mapped (λ (x : E × ℕ). x.0) into.seen into_then.seen told.behind;
    parts = told.parts;
    normal = told.normal;
  }

  -- a row tells another
  pub told_plain : (n : ℕ) (froms intos froms_then intos_then : List (View (E × ℕ) S)) →
      ToldUpTo n froms intos froms_then intos_then →
      ToldUpTo n (plain_row froms) (plain_row intos) (plain_row froms_then) (plain_row intos_then)
  told_plain n froms intos froms_then intos_then told = record {
    done = λ k v w few at also.
        let one = mapped_item plain_view froms k v at in
        let two = mapped_item plain_view intos k w also in
        let done = told.done k one.0 two.0 few one.1.0 two.1.0 in
        record {
          from_then = plain_view done.from_then;
          into_then = plain_view done.into_then;
          from_at = item_mapped plain_view froms_then k done.from_then done.from_at;
          into_at = item_mapped plain_view intos_then k done.into_then done.into_at;
          told = subst (λ (x : View E S).
              Told x w (plain_view done.from_then) (plain_view done.into_then)) (sym one.1.1)
              (subst (λ (x : View E S).
              Told (plain_view one.0) x (plain_view done.from_then) (plain_view done.into_then))
              (sym two.1.1) (told_one one.0 two.0 done.from_then done.into_then done.told));
        };
    rest = λ k most. same_at froms_then froms k (told.rest k most);
    others = λ k most. same_at intos_then intos k (told.others k most);
    both = same_long intos froms told.both;
    as_many = same_long froms_then froms told.as_many;
    others_many = same_long intos_then intos told.others_many;
  }
