-- What waits by place, and the places of each id.
use Rattle.std.proofs.Common.{◌≡◌, ◌≤◌, ◌<◌, ℕ, ◌+◌, List, [], ◌∷◌, ◌++◌, Option, Some, None}
use Rattle.std.proofs.Common.{Bool, true, false, cond, refl, sym, ap, subst, ◌∙◌, arith, inl, inr}
use Rattle.std.specs.Prelude.{nat_eq, nat_lt, ◌&&◌}
use Rattle.std.specs.List.{AllByRecursion}
use Rattle.std.specs.List.Sorted.{IsStrictlySortedBy}
use Rattle.std.specs.Map.{lookup, remove_entry, values_of, keys_of}
use Rattle.std.specs.Ordering.{nat_cmp, ordering_then, is_eq, is_gt, match_ordering}
use Rattle.std.specs.declared.cmp.Ordering.{Ordering}
use Rattle.std.specs.declared.cmp.Ordering.TheVariants.{Less, Equal, Greater}
use Rattle.std.specs.Cmp.{unsigned_ties, ranked, nat_cmp_is}
use Rattle.std.specs.BTreeMap.{BTreeMap, get, is_at, IsOrdered, insert_entry}
use Rattle.std.specs.BTreeSet.{BTreeSet, contains}
use Rattle.std.proofs.lemmas.Bool.{cases_Bool, eq-eqb, eqb-true, false_from_ne_true, ltb-true}
use Rattle.std.proofs.lemmas.Bool.{ltb-false}
use Rattle.std.proofs.lemmas.Map.Keys.{le_from_not_gt}
use Rattle.std.proofs.lemmas.Option.{some_pair_parts, same_Some}
use Rattle.std.specs.Prelude.{IfSome, slice_get}
use Rattle.std.specs.BTreeMap.Range.{IsLeBy}
use Rattle.std.specs.BTreeSet.{IsKeyRangeOf, IsKeyInRange}
use Rattle.std.specs.declared.ops.Bound.TheVariants.{Included, Unbounded}
use Rattle.packet_entry.specs.declared.packet.Card.{Card}
use Rattle.queue_core.specs.Ids.{is_id}
use Rattle.fate_ledger.specs.IndexedList.{pair_cmp, is_under, IsIndexed, IsAhead, IsFirstPlace}
use Rattle.fate_ledger.specs.IndexedList.{HasNoPlace, IsFirstFrom}

-- what waits, by place
abbrev pub Entries : Type 0
Entries = List (ℕ × (ℕ × Card))

-- ---- places and ids that are the same

same_place : (place q : ℕ) → is_at (nat_cmp place) q ≡ nat_eq place q
same_place place q = sym (unsigned_ties place q)

both : (a b : Ordering) → is_eq (ordering_then a b) ≡ is_eq a && is_eq b
both Less b = refl
both Equal b = refl
both Greater b = refl

same_pair : (id place i q : ℕ) →
    is_at (pair_cmp (id, place)) (i, q) ≡ nat_eq id i && nat_eq place q
same_pair id place i q =
    both (nat_cmp id i) (nat_cmp place q)
    ∙ ap (λ b. b && is_eq (nat_cmp place q)) (sym (unsigned_ties id i))
    ∙ ap (λ b. nat_eq id i && b) (sym (unsigned_ties place q))

true_is_not_false : true ≡ false → ⊥
true_is_not_false e = cc

apart : (a b : ℕ) → a < b → nat_eq b a ≡ false
apart a b less = false_from_ne_true (nat_eq b a) (λ is. omega (arith, less, eqb-true b a is))

under_other : (id other : ℕ) (card : Card) → nat_eq id other ≡ false →
    is_under other (Some (id, card)) ≡ false
under_other id other card differ =
    false_from_ne_true (nat_eq other id)
    (λ is. true_is_not_false (sym (eq-eqb id other (sym (eqb-true other id is))) ∙ differ))

-- ---- the index

module _ (m n : BTreeMap ℕ (ℕ × Card)) (s t : BTreeSet (ℕ × ℕ)) (id place : ℕ)
    (is : IsIndexed m s) where
  -- what is found under the id changes at one place, and nothing is found there under another
  indexed_on : (w : Option (ℕ × Card)) (b : Bool) → IsOrdered nat_cmp n →
      ((q : ℕ) → get nat_cmp n q ≡ cond (is_at (nat_cmp place) q) w (get nat_cmp m q)) →
      ((q : ℕ × ℕ) → contains pair_cmp t q
      ≡ cond (is_at (pair_cmp (id, place)) q) b (contains pair_cmp s q)) → b ≡ is_under id w →
      ((other : ℕ) → nat_eq id other ≡ false →
      is_under other (get nat_cmp m place) ≡ is_under other w) → IsIndexed n t
  indexed_on w b ordered changed noted told others = record {
    ordered = ordered;
    indexed = at;
  }
    where
      by : (i q : ℕ) (c d : Bool) → nat_eq id i ≡ c → nat_eq place q ≡ d →
          cond (c && d) b (contains pair_cmp s (i, q))
          ≡ is_under i (cond d w (get nat_cmp m q))
      by i q true true e f = told ∙ ap (λ j. is_under j w) (eqb-true id i e)
      by i q true false e f = is.indexed i q
      by i q false true e f =
          is.indexed i q
          ∙ ap (λ p. is_under i (get nat_cmp m p)) (sym (eqb-true place q f)) ∙ others i e
      by i q false false e f = is.indexed i q

      at : (i q : ℕ) → contains pair_cmp t (i, q) ≡ is_under i (get nat_cmp n q)
      at i q =
          noted (i, q)
          ∙ ap (λ c. cond c b (contains pair_cmp s (i, q))) (same_pair id place i q)
          ∙ by i q (nat_eq id i) (nat_eq place q) refl refl
          ∙ sym (ap (is_under i)
          (changed q ∙ ap (λ c. cond c w (get nat_cmp m q)) (same_place place q)))

  -- a packet leaves its place
  pub indexed_out : (card : Card) → get nat_cmp m place ≡ Some (id, card) → IsOrdered nat_cmp n →
      ((q : ℕ) → get nat_cmp n q ≡ cond (is_at (nat_cmp place) q) None (get nat_cmp m q)) →
      ((q : ℕ × ℕ) → contains pair_cmp t q
      ≡ cond (is_at (pair_cmp (id, place)) q) false (contains pair_cmp s q)) → IsIndexed n t
  indexed_out card there ordered changed noted =
      indexed_on None false ordered changed noted refl
      (λ other differ. ap (is_under other) there ∙ under_other id other card differ)

  -- a packet comes to a free place
  pub indexed_in : (card : Card) → get nat_cmp m place ≡ None → IsOrdered nat_cmp n →
      ((q : ℕ) → get nat_cmp n q
      ≡ cond (is_at (nat_cmp place) q) (Some (id, card)) (get nat_cmp m q)) →
      ((q : ℕ × ℕ) → contains pair_cmp t q
      ≡ cond (is_at (pair_cmp (id, place)) q) true (contains pair_cmp s q)) → IsIndexed n t
  indexed_in card free ordered changed noted =
      indexed_on (Some (id, card)) true ordered changed noted (sym (eq-eqb id id refl))
      (λ other differ. ap (is_under other) free ∙ sym (under_other id other card differ))

  -- a place of the id is noted and forgotten again, where nothing waits
  pub undone : (u : BTreeSet (ℕ × ℕ)) → get nat_cmp m place ≡ None → n.entries ≡ m.entries →
      IsOrdered nat_cmp n →
      ((q : ℕ × ℕ) → contains pair_cmp t q
      ≡ cond (is_at (pair_cmp (id, place)) q) true (contains pair_cmp s q)) →
      ((q : ℕ × ℕ) → contains pair_cmp u q
      ≡ cond (is_at (pair_cmp (id, place)) q) false (contains pair_cmp t q)) → IsIndexed n u
  undone u free same ordered noted forgotten = record {
    ordered = ordered;
    indexed = at;
  }
    where
      by : (i q : ℕ) (c d : Bool) → nat_eq place q ≡ d →
          cond (c && d) false (cond (c && d) true (contains pair_cmp s (i, q)))
          ≡ is_under i (get nat_cmp m q)
      by i q true true f =
          sym (ap (is_under i) (ap (get nat_cmp m) (sym (eqb-true place q f)) ∙ free))
      by i q true false f = is.indexed i q
      by i q false d f = is.indexed i q

      at : (i q : ℕ) → contains pair_cmp u (i, q) ≡ is_under i (get nat_cmp n q)
      at i q =
          forgotten (i, q)
          ∙ ap (cond (is_at (pair_cmp (id, place)) (i, q)) false) (noted (i, q))
          ∙ ap (λ c. cond c false (cond c true (contains pair_cmp s (i, q))))
          (same_pair id place i q)
          ∙ by i q (nat_eq id i) (nat_eq place q) refl
          ∙ ap (λ es. is_under i (lookup (is_at (nat_cmp q)) es)) (sym same)

-- where a packet leaves, still nothing waits at later places
pub none_ahead : (m n : BTreeMap ℕ (ℕ × Card)) (place next : ℕ) →
    ((q : ℕ) → get nat_cmp n q ≡ cond (is_at (nat_cmp place) q) None (get nat_cmp m q)) →
    IsAhead m next → IsAhead n next
none_ahead m n place next changed ahead q from =
    changed q ∙ elim (is_at (nat_cmp place) q) as (λ b. cond b None (get nat_cmp m q) ≡ None) [
      | true ↦ refl
      | false ↦ ahead q from
    ]

-- where one comes, nothing waits at places after its own
pub one_ahead : (m n : BTreeMap ℕ (ℕ × Card)) (place : ℕ) (w : ℕ × Card) →
    ((q : ℕ) → get nat_cmp n q
    ≡ cond (is_at (nat_cmp place) q) (Some w) (get nat_cmp m q)) → IsAhead m place →
    IsAhead n (place + 1)
one_ahead m n place w changed ahead q from =
    changed q
    ∙ ap (λ b. cond b (Some w) (get nat_cmp m q))
    (same_place place q ∙ false_from_ne_true (nat_eq place q)
    (λ is. omega (arith, from, eqb-true place q is)))
    ∙ ahead q (omega (arith, from))

-- ---- the list

-- what comes to a place after all others comes last
pub comes_last : (es : Entries) (k : ℕ) (w : ℕ × Card) →
    ((q : ℕ) → k ≤ q → lookup (is_at (nat_cmp q)) es ≡ None) →
    insert_entry nat_cmp es k w ≡ es ++ (k, w) ∷ []
comes_last [] k w ahead = refl
comes_last (e ∷ es) k w ahead = elim (cases_Bool (nat_lt e.0 k)) [
  | inl less ↦ ap (λ r. match_ordering r ((k, w) ∷ e ∷ es) ((e.0, w) ∷ es)
      (e ∷ insert_entry nat_cmp es k w))
      (sym (nat_cmp_is k e.0 Greater (ltb-true e.0 k less)))
      ∙ ap (λ fs. e ∷ fs) (comes_last es k w (λ q from. sym (passed q
      (apart e.0 q (omega (arith, ltb-true e.0 k less, from)))) ∙ ahead q from))
  | inr not_ ↦ absurd (some_is_none (sym head ∙ ahead e.0 (ltb-false e.0 k not_)))
]
  where
    passed : (q : ℕ) → nat_eq q e.0 ≡ false →
        lookup (is_at (nat_cmp q)) (e ∷ es) ≡ lookup (is_at (nat_cmp q)) es
    passed q differ =
        ap (λ b. cond b (Some e.1) (lookup (is_at (nat_cmp q)) es)) (same_place q e.0 ∙ differ)

    head : lookup (is_at (nat_cmp e.0)) (e ∷ es) ≡ Some e.1
    head =
        ap (λ b. cond b (Some e.1) (lookup (is_at (nat_cmp e.0)) es))
        (same_place e.0 e.0 ∙ eq-eqb e.0 e.0 refl)

    some_is_none : Some e.1 ≡ None → ⊥
    some_is_none is = cc

less_than : (a b : ℕ) → nat_cmp a b ≡ Less → a < b
less_than a b is = ranked a b Less (sym is)

-- what is found stands at a place after all those that it is after
later : (x : ℕ) (es : Entries) (k : ℕ) (w : ℕ × Card) →
    AllByRecursion (λ y. nat_cmp x y ≡ Less) (keys_of es) →
    lookup (is_at (nat_cmp k)) es ≡ Some w → x < k
later x [] k w all found = absurd (let none : None ≡ Some w = found in cc)
later x (e ∷ es) k w all found = elim (cases_Bool (nat_eq k e.0)) [
  | inl same ↦ subst (λ y. x < y) (sym (eqb-true k e.0 same)) (less_than x e.0 all.0)
  | inr differ ↦ later x es k w all.1
      (sym (ap (λ b. cond b (Some e.1) (lookup (is_at (nat_cmp k)) es))
      (same_place k e.0 ∙ differ)) ∙ found)
]

module _ (e : ℕ × (ℕ × Card)) (es : Entries) where
  found_first : lookup (is_at (nat_cmp e.0)) (e ∷ es) ≡ Some e.1
  found_first =
      ap (λ b. cond b (Some e.1) (lookup (is_at (nat_cmp e.0)) es))
      (same_place e.0 e.0 ∙ eq-eqb e.0 e.0 refl)

  found_behind : (q : ℕ) (w : ℕ × Card) →
      AllByRecursion (λ y. nat_cmp e.0 y ≡ Less) (keys_of es) →
      lookup (is_at (nat_cmp q)) es ≡ Some w → lookup (is_at (nat_cmp q)) (e ∷ es) ≡ Some w
  found_behind q w all found =
      ap (λ b. cond b (Some e.1) (lookup (is_at (nat_cmp q)) es))
      (same_place q e.0 ∙ apart e.0 q (later e.0 es q w all found)) ∙ found

-- where no place is one of the id, nothing is found under it
pub no_place : (es : Entries) (id : ℕ) → IsStrictlySortedBy nat_cmp (keys_of es) →
    ((q : ℕ) (w : ℕ × Card) → lookup (is_at (nat_cmp q)) es ≡ Some w → is_id id w.0 ≡ false) →
    lookup (is_id id) (values_of es) ≡ None
unfolding IsStrictlySortedBy
no_place [] id sorted none = refl
no_place (e ∷ es) id sorted none =
    ap (λ b. cond b (Some e.1.1) (lookup (is_id id) (values_of es)))
    (none e.0 e.1 (found_first e es))
    ∙ no_place es id sorted.1 (λ q w found. none q w (found_behind e es q w sorted.0 found))

-- the first place of the id is that of the first that is found under it
pub first_place : (es : Entries) (id k : ℕ) (card : Card) →
    IsStrictlySortedBy nat_cmp (keys_of es) → lookup (is_at (nat_cmp k)) es ≡ Some (id, card) →
    ((q : ℕ) (w : ℕ × Card) → lookup (is_at (nat_cmp q)) es ≡ Some w → is_id id w.0 ≡ true →
    k ≤ q) → (lookup (is_id id) (values_of es) ≡ Some card)
    × (remove_entry (is_id id) (values_of es)
    ≡ values_of (remove_entry (is_at (nat_cmp k)) es))
unfolding IsStrictlySortedBy
first_place [] id k card sorted found least =
    absurd (let none : None ≡ Some (id, card) = found in cc)
first_place (e ∷ es) id k card sorted found least = elim (cases_Bool (nat_eq k e.0)) [
  | inl same ↦ (let parts = some_pair_parts e.1.0 id e.1.1 card
      (sym (ap (λ b. cond b (Some e.1) (lookup (is_at (nat_cmp k)) es))
      (same_place k e.0 ∙ same)) ∙ found) in
      let own : is_id id e.1.0 ≡ true = eq-eqb id e.1.0 (sym parts.0) in (
        ap (λ b. cond b (Some e.1.1) (lookup (is_id id) (values_of es))) own ∙ ap Some parts.1,
        ap (λ b. cond b (values_of es) (e.1 ∷ remove_entry (is_id id) (values_of es))) own
            ∙ sym (ap (λ b. values_of (cond b es (e ∷ remove_entry (is_at (nat_cmp k)) es)))
            (same_place k e.0 ∙ same)),
      ))
  | inr differ ↦ (let behind : lookup (is_at (nat_cmp k)) es ≡ Some (id, card) =
      sym (ap (λ b. cond b (Some e.1) (lookup (is_at (nat_cmp k)) es))
      (same_place k e.0 ∙ differ)) ∙ found in
      let other : is_id id e.1.0 ≡ false = false_from_ne_true (is_id id e.1.0) (λ own. omega (
        arith,
        least e.0 e.1 (found_first e es) own,
        later e.0 es k (id, card) sorted.0 behind,
      )) in
      let rest = first_place es id k card sorted.1 behind
      (λ q w is own. least q w (found_behind e es q w sorted.0 is) own) in (
        ap (λ b. cond b (Some e.1.1) (lookup (is_id id) (values_of es))) other ∙ rest.0,
        ap (λ b. cond b (values_of es) (e.1 ∷ remove_entry (is_id id) (values_of es))) other
            ∙ ap (λ ws. e.1 ∷ ws) rest.1
            ∙ sym (ap (λ b. values_of (cond b es (e ∷ remove_entry (is_at (nat_cmp k)) es)))
            (same_place k e.0 ∙ differ)),
      ))
]

-- where nothing is found under an id, nothing is taken out
pub none_leaves : (ws : List (ℕ × Card)) (id : ℕ) → lookup (is_id id) ws ≡ None →
    ws ≡ remove_entry (is_id id) ws
none_leaves [] id none = refl
none_leaves (w ∷ ws) id none = elim (cases_Bool (is_id id w.0)) [
  | inl same ↦ absurd (let here : Some w.1 ≡ None = rw same at none in some_is_none here)
  | inr other ↦ rw other (ap (λ (vs : List (ℕ × Card)). w ∷ vs)
      (none_leaves ws id (rw other at none)))
]
  where
    some_is_none : Some w.1 ≡ None → ⊥
    some_is_none e = cc

-- the first entry, and what stands at places after it
of_front : (es : Entries) (e : ℕ × (ℕ × Card)) → slice_get es 0 ≡ Some e →
    (lookup (is_at (nat_cmp e.0)) es ≡ Some e.1)
    × (IsStrictlySortedBy nat_cmp (keys_of es) → (p : ℕ) (w : ℕ × Card) →
    lookup (is_at (nat_cmp p)) es ≡ Some w → e.0 ≤ p)
unfolding IsStrictlySortedBy
of_front [] e front = absurd (let none : None ≡ Some e = front in cc)
of_front (d ∷ es) e front =
    subst (λ (x : ℕ × (ℕ × Card)). (lookup (is_at (nat_cmp x.0)) (d ∷ es) ≡ Some x.1)
    × (IsStrictlySortedBy nat_cmp (keys_of (d ∷ es)) → (p : ℕ) (w : ℕ × Card) →
    lookup (is_at (nat_cmp p)) (d ∷ es) ≡ Some w → x.0 ≤ p)) (same_Some d e front)
    (found_first d es, least)
  where
    least : IsStrictlySortedBy nat_cmp (keys_of (d ∷ es)) → (p : ℕ) (w : ℕ × Card) →
        lookup (is_at (nat_cmp p)) (d ∷ es) ≡ Some w → d.0 ≤ p
    least sorted p w there = elim (cases_Bool (nat_eq p d.0)) [
      | inl same ↦ omega (arith, eqb-true p d.0 same)
      | inr differ ↦ omega (
        arith,
        later d.0 es p w sorted.0
            (sym (ap (λ b. cond b (Some d.1) (lookup (is_at (nat_cmp p)) es))
            (same_place p d.0 ∙ differ)) ∙ there),
      )
    ]

-- ---- the first place from an id on

-- a pair that isn't after another
le_pair : (a b c d : ℕ) → is_gt (pair_cmp (a, b) (c, d)) ≡ false → (a ≤ c) × (a ≡ c → b ≤ d)
le_pair a b c d = by (nat_cmp a c) refl
  where
    by : (r : Ordering) → nat_cmp a c ≡ r → is_gt (ordering_then r (nat_cmp b d)) ≡ false →
        (a ≤ c) × (a ≡ c → b ≤ d)
    by Less e not_after =
        (omega (arith, less_than a c e), λ same. absurd (omega (arith, less_than a c e, same)))
    by Equal e not_after = (
      (let same : a ≡ c = ranked a c Equal (sym e) in omega (arith, same)),
      λ same. le_from_not_gt b d not_after,
    )
    by Greater e not_after = absurd (true_is_not_false not_after)

-- an id's places aren't before its first one
pub from_zero : (id place : ℕ) → is_gt (pair_cmp (id, 0) (id, place)) ≡ false
from_zero id place =
    ap (λ r. is_gt (ordering_then r (nat_cmp 0 place))) (sym (nat_cmp_is id id Equal refl))
    ∙ by (nat_cmp 0 place) refl
  where
    by : (r : Ordering) → nat_cmp 0 place ≡ r → is_gt r ≡ false
    by Less e = refl
    by Equal e = refl
    by Greater e =
        let below : place < 0 = ranked 0 place Greater (sym e) in absurd (omega (arith, below))

-- ---- what the range from an id on says

module _ (places : BTreeSet (ℕ × ℕ)) (id : ℕ) (r : List (ℕ × ℕ))
    (range : IsKeyRangeOf pair_cmp (Included (id, 0)) Unbounded places r) where
  pub none_from : r ≡ [] → HasNoPlace places id
  none_from empty place = range.5 empty (id, place) (from_zero id place, tt)

  pub found_from : (first : ℕ × ℕ) (rest : List (ℕ × ℕ)) → r ≡ first ∷ rest →
      IsFirstFrom places id first
  found_from first rest front =
      let here = subst (λ (qs : List (ℕ × ℕ)). IfSome (slice_get qs 0)
      (IsKeyInRange pair_cmp (Included (id, 0)) Unbounded places)) front range.1 in record {
        kept = here.1;
        from = here.0.0;
        least = λ place kept. subst (λ (qs : List (ℕ × ℕ)). IfSome (slice_get qs 0)
            (λ p. IsLeBy pair_cmp p (id, place))) front
            (range.2 (id, place) (from_zero id place, tt) kept);
      }

-- ---- the place of an id

module _ (m : BTreeMap ℕ (ℕ × Card)) (places : BTreeSet (ℕ × ℕ)) (id : ℕ)
    (is : IsIndexed m places) where
  -- where something waits under the id at a place, the index has it
  noted : (q : ℕ) (w : ℕ × Card) → get nat_cmp m q ≡ Some w → is_id id w.0 ≡ true →
      contains pair_cmp places (id, q) ≡ true
  noted q w there own = is.indexed id q ∙ ap (is_under id) there ∙ own

  pub nowhere : HasNoPlace places id → lookup (is_id id) (values_of m.entries) ≡ None
  nowhere none =
      no_place m.entries id is.ordered (λ q w there.
      false_from_ne_true (is_id id w.0) (λ own.
      true_is_not_false (sym (noted q w there own) ∙ none q)))

  pub elsewhere : (first : ℕ × ℕ) → IsFirstFrom places id first → (first.0 ≡ id → ⊥) →
      lookup (is_id id) (values_of m.entries) ≡ None
  elsewhere first found differ =
      no_place m.entries id is.ordered (λ q w there.
      false_from_ne_true (is_id id w.0) (λ own.
      differ (omega (
        arith,
        (le_pair first.0 first.1 id q (found.least q (noted q w there own))).0,
        (le_pair id 0 first.0 first.1 found.from).0,
      ))))

  at_place : (q : ℕ) (o : Option (ℕ × Card)) → get nat_cmp m q ≡ o → is_under id o ≡ true →
      ((p : ℕ) (w : ℕ × Card) → get nat_cmp m p ≡ Some w → is_id id w.0 ≡ true → q ≤ p) →
      IsFirstPlace m id q
  at_place q None there own least = absurd (true_is_not_false (sym own))
  at_place q (Some w) there own least =
      let here : get nat_cmp m q ≡ Some (id, w.1) =
      there ∙ ap (λ i. Some (i, w.1)) (sym (eqb-true id w.0 own)) in
      let first = first_place m.entries id q w.1 is.ordered here least in record {
        card = w.1;
        there = here;
        found = first.0;
        others = first.1;
      }

  pub here : (first : ℕ × ℕ) → IsFirstFrom places id first → first.0 ≡ id →
      IsFirstPlace m id first.1
  here first found same =
      at_place first.1 (get nat_cmp m first.1) refl
      (sym (is.indexed id first.1)
      ∙ ap (λ i. contains pair_cmp places (i, first.1)) (sym same)
      ∙ found.kept) (λ p w there own.
      (le_pair first.0 first.1 id p (found.least p (noted p w there own))).1
      same)

  -- the oldest of all, where it is under the id
  pub at_front : (e : ℕ × (ℕ × Card)) → slice_get m.entries 0 ≡ Some e → e.1.0 ≡ id →
      IsFirstPlace m id e.0
  at_front e front same =
      at_place e.0 (Some e.1) ((of_front m.entries e front).0)
      (eq-eqb id e.1.0 (sym same)) (λ p w there own.
      (of_front m.entries e front).1 is.ordered p w there)
