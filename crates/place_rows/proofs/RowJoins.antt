-- Rows that are joined.
use Rattle.std.proofs.Common.{◌≡◌, ◌+◌, ℕ, List, [], ◌∷◌, ◌++◌, length, refl, sym}
use Rattle.std.proofs.Common.{ap, ◌∙◌, subst, arith, inl, inr}
use Rattle.std.specs.Prelude.{slice_get, slice_set, Option, Some, None, option_map, nat_eq, nat_lt}
use Rattle.std.specs.Prelude.{sum_by, IfSome}
use mathlib.Core.List.{IsPrefix}
use Rattle.std.proofs.lemmas.List.{length-set}
use Rattle.std.proofs.lemmas.List.Sums.{sum_by-cons, sum_by_push}
use Rattle.std.proofs.lemmas.Option.{slice_get_within}
use Rattle.std.proofs.lemmas.Bool.{cases_Bool, eqb-true, eqb-false}
use Rattle.turn_lock.specs.declared.view.View.{View}
use Rattle.turn_lock.specs.Parts.{Tree, Whole, Empty, union}
use Rattle.turn_lock.specs.Places.{insert, merged}
use Rattle.place_rows.specs.Lists.{Every}
use Rattle.place_rows.specs.Rows.{TurnsOne, HasTurned}
use Rattle.place_rows.specs.Joining.{Joins, RowJoined, AllJoined, JoinedAt, AreWhole, together_at}
use Rattle.place_rows.specs.Joining.{part_in, own_at, own_sum, Begins}
use Rattle.place_rows.proofs.Lists.{one_item, item_at, get_same, get_other, prefix_self}
use Rattle.place_rows.proofs.Lists.{prefix_trans, every_both, every_mapped}

-- ---- sums over places
insert_sum : (f : ℕ → ℕ) (k : ℕ) (ks : List ℕ) → sum_by f (insert k ks) ≡ f k + sum_by f ks
insert_sum f k [] = omega (arith, sum_by-cons f k [])
insert_sum f k (j ∷ ks) =
    elim (cases_Bool (nat_lt k j)) [
      | inl h ↦ rw h (sum_by-cons f k (j ∷ ks))
      | inr h ↦ rw h (omega (
        arith,
        sum_by-cons f j (insert k ks),
        insert_sum f k ks,
        sum_by-cons f
            j ks,
      ))
    ]

pub merged_sum : (f : ℕ → ℕ) (ks js : List ℕ) → sum_by f (merged ks js) ≡ sum_by f ks + sum_by f js
merged_sum f [] js = omega arith
merged_sum f (k ∷ ks) js =
    omega (arith, insert_sum f k (merged ks js), merged_sum f ks js, sum_by-cons f k ks)

-- ---- one row

module _ {E S : Type 0} where
  pub row_none : (vs ws : List (View E S)) → length ws ≡ length vs → RowJoined (length ws) vs ws vs
  row_none vs ws both = record {
    done = λ k v w most at also. absurd (omega (arith, most, slice_get_within ws k w also));
    rest = λ k few. refl;
    both = both;
    as_many = refl;
  }

  pub row_step : (n : ℕ) (vs ws us xs : List (View E S)) (w : View E S) →
      RowJoined (n + 1) vs ws us → slice_get ws n ≡ Some w → TurnsOne n us xs (Joins w) →
      RowJoined n vs ws xs
  row_step n vs ws us xs w so_far has one = record {
    done = λ k v y most at also. elim (cases_Bool (nat_eq k n)) [
      | inl same ↦ (let e : k ≡ n = eqb-true k n same in
          let was : one.before ≡ v =
          one_item one.before v (sym one.had ∙ so_far.rest n (omega arith)
          ∙ sym (ap (slice_get vs) e) ∙ at) in
          let it : w ≡ y = one_item w y (sym has ∙ sym (ap (slice_get ws) e) ∙ also) in
          record {
            after = one.after;
            at = ap (λ (l : List (View E S)). slice_get l k) one.has
                ∙ ap (slice_get (slice_set us n one.after)) e
                ∙ get_same us n one.after (slice_get_within us n one.before one.had);
            turns = subst (λ (z : View E S). Joins z v one.after) it
                (subst (λ (z : View E S). Joins w z one.after) was one.turns);
          })
      | inr other ↦ (let done = so_far.done k v y (omega (arith, most, eqb-false k n other)) at also
          in
          record {
            after = done.after;
            at = ap (λ (l : List (View E S)). slice_get l k) one.has
                ∙ get_other us n k one.after (eqb-false k n other) ∙ done.at;
            turns = done.turns;
          })
    ];
    rest = λ k few. ap (λ (l : List (View E S)). slice_get l k) one.has
        ∙ get_other us n k one.after (λ same. absurd (omega (arith, few, same)))
        ∙ so_far.rest k (omega (arith, few));
    both = so_far.both;
    as_many = ap length one.has ∙ length-set us n one.after ∙ so_far.as_many;
  }

  -- ---- several rows
  pub together_push : (k : ℕ) (t : Tree) (rows : List (List (View E S))) (ws : List (View E S)) →
      together_at k t (rows ++ ws ∷ []) ≡ union (together_at k t rows) (part_in (slice_get ws k))
  together_push k t [] ws = refl
  together_push k t (row ∷ rows) ws = together_push k (union t (part_in (slice_get row k))) rows ws

  pub begins_longer : (k : ℕ) (xs ys : List E) (known : List (View E S)) → IsPrefix xs ys →
      Begins k xs known → Begins k ys known
  begins_longer k xs ys known longer begins = inner (slice_get known k) begins
    where
      inner : (o : Option (View E S)) →
          IfSome (option_map (λ (v : View E S). v.seen) o) (λ seen. IsPrefix seen xs) →
          IfSome (option_map (λ (v : View E S). v.seen) o) (λ seen. IsPrefix seen ys)
      inner None h = tt
      inner (Some v) h = prefix_trans v.seen xs ys h longer

  pub none_joined : (vs : List (View E S)) → AllJoined [] vs vs
  none_joined vs = record {
    rows_are = tt;
    each = λ k v at. record {
      after = v;
      at = at;
      turns = record {
        part = refl;
        own = λ f. omega arith;
        first = prefix_self v.seen;
        begins = tt;
      };
    };
    as_many = refl;
  }

  pub all_step : (rows : List (List (View E S))) (vs us ws xs : List (View E S)) →
      AllJoined rows vs us → RowJoined 0 us ws xs → AllJoined (rows ++ ws ∷ []) vs xs
  all_step rows vs us ws xs so_far row = record {
    rows_are = every_both (λ w. length w ≡ length vs) rows (ws ∷ []) so_far.rows_are (
      row.both
          ∙ so_far.as_many,
      tt,
    );
    each = λ k v at. by_one k v (so_far.each k v at);
    as_many = row.as_many ∙ so_far.as_many;
  }
    where
      by_one : (k : ℕ) (v : View E S) → HasTurned v us k (JoinedAt k rows) →
          HasTurned v xs k (JoinedAt k (rows ++ ws ∷ []))
      by_one k v before =
          let u = before.after in
          let here = item_at ws k (omega (arith, row.both, slice_get_within us k u before.at)) in
          let w = here.0 in
          let done = row.done k u w (omega arith) before.at here.1 in
          let x = done.after in
          record {
            after = x;
            at = done.at;
            turns = record {
              part = ap (λ (y : View E S). y.part) done.turns.is
                  ∙ ap (λ t. union t w.part) before.turns.part
                  ∙ ap (λ (o : Option (View E S)). union (together_at k v.part rows) (part_in o))
                  (sym here.1)
                  ∙ sym (together_push k v.part rows ws);
              own = λ f. omega (
                arith,
                ap (λ (y : View E S). sum_by f y.own) done.turns.is,
                merged_sum f u.own w.own,
                before.turns.own f,
                sum_by_push (own_at f k) rows ws,
                ap (own_sum f) here.1,
              );
              first = prefix_trans v.seen u.seen x.seen before.turns.first done.turns.first;
              begins = every_both (Begins k x.seen) rows (ws ∷ [])
                  (every_mapped (Begins k u.seen) (Begins k x.seen) rows
                  (λ known. begins_longer k u.seen x.seen known done.turns.first)
                  before.turns.begins) (
                    subst (λ (o : Option (View E S)).
                        IfSome (option_map (λ (v : View E S). v.seen) o)
                        (λ seen. IsPrefix seen x.seen))
                        (sym here.1) done.turns.second,
                    tt,
                  );
            };
          }

  -- the first row, to which each item joined belongs
  pub under : (k : ℕ) (vs us : List (View E S)) (rows : List (List (View E S))) (u : View E S) →
      AllJoined rows vs us →
      slice_get us k ≡ Some u → (v : View E S) × ((slice_get vs k ≡ Some v) × JoinedAt k rows v u)
  under k vs us rows u joined at =
      let here = item_at vs k (omega (arith, joined.as_many, slice_get_within us k u at)) in
      let done = joined.each k here.0 here.1 in (
        here.0,
        (
          here.1,
          subst (JoinedAt k rows here.0) (one_item done.after u (sym done.at
              ∙ at)) done.turns,
        ),
      )

  pub whole_parts : (places : ℕ) (vs us : List (View E S)) (rows : List (List (View E S))) →
      AllJoined rows vs us → length us ≡ places → AreWhole places (vs ∷ rows) →
      (k : ℕ) (u : View E S) → slice_get us k ≡ Some u → u.part ≡ Whole
  whole_parts places vs us rows joined long whole k u at =
      let v = under k vs us rows u joined at in
      v.1.1.part
      ∙ ap (λ (o : Option (View E S)). together_at k (union Empty (part_in o)) rows) (sym v.1.0)
      ∙ whole k (omega (arith, long, slice_get_within us k u at))

  -- ---- what a joined pass has is what all rows had

  -- what each of them has seen begins a list that goes on from what it has seen
  pub all_begin : (k : ℕ) (vs us : List (View E S)) (rows : List (List (View E S))) (u : View E S)
      (list : List E) → AllJoined rows vs us → slice_get us k ≡ Some u → IsPrefix u.seen list →
      Every (Begins k list) (vs ∷ rows)
  all_begin k vs us rows u list joined at begins =
      let v = under k vs us rows u joined at in (
        subst (λ (o : Option (View E S)). IfSome (option_map (λ (x : View E S). x.seen) o)
            (λ seen. IsPrefix seen list))
            (sym v.1.0) (prefix_trans v.0.seen u.seen list v.1.1.first begins),
        every_mapped (Begins k u.seen) (Begins k list) rows
            (λ ws. begins_longer k u.seen list ws begins) v.1.1.begins,
      )

  -- their own entries are those of the whole list, where these are the pass's own
  pub all_own : (k : ℕ) (vs us : List (View E S)) (rows : List (List (View E S))) (u : View E S)
      (places : List ℕ) → AllJoined rows vs us → slice_get us k ≡ Some u → u.own ≡ places →
      (f : ℕ → ℕ) → sum_by (own_at f k) (vs ∷ rows) ≡ sum_by f places
  all_own k vs us rows u places joined at own f =
      let v = under k vs us rows u joined at in
      omega (
        arith,
        sum_by-cons (own_at f k) vs rows,
        ap (own_sum f) v.1.0,
        v.1.1.own f,
        ap (sum_by f) own,
      )
