-- The fresh id is free: of more numbers than ids has, one isn't among them.
use Rattle.std.proofs.Common.{◌≡◌, ◌≤◌, ◌<◌, ℕ, zero, suc, ◌+◌, ◌-◌, ◌%◌, List, [], ◌∷◌, length}
use Rattle.std.proofs.Common.{true, false, ◌⊎◌, inl, inr, refl, sym, ap, ◌∙◌, arith}
use Rattle.std.proofs.lemmas.Bool.{cases_Bool, eqb-true, eq-eqb, ne_eqb, or_cases, cases_lt}
use Rattle.std.proofs.lemmas.Map.Made.{length-le_from_is_member}
use Rattle.std.specs.Cmp.{nat_eq_equiv}
use Rattle.std.specs.Set.{is_member}
use Rattle.std.specs.List.{IsDistinct, AllByRecursion}
use Rattle.std.specs.Prelude.{nat_eq, cond}
use Rattle.queue_core.specs.Numbers.{id_count}
use Rattle.queue_core.specs.Ids.{is_among, id_after, free_from, fresh, IsFirstFree}

-- counted on by one, and then by n
after_by : (id n : ℕ) → (id_after id + n) % id_count ≡ (id + (n + 1)) % id_count
after_by id n = omega arith

below : (id : ℕ) → id_after id < id_count
below id = omega arith

-- so many ids, from this one on
candidates : ℕ → ℕ → List ℕ
candidates zero id = []
candidates (suc n) id = id ∷ candidates n (id_after id)

length-candidates : (n id : ℕ) → length (candidates n id) ≡ n
unfolding candidates
length-candidates zero id = refl
length-candidates (suc n) id = ap suc (length-candidates n (id_after id))

-- what a walk from this id on finds: the first that is free, or none in so many looks
record Walk (looks id : ℕ) (ids : List ℕ) : Type 0 where
  way : ℕ
  short : way ≤ looks
  is : free_from looks id ids ≡ (id + way) % id_count
  passed : (n : ℕ) → n < way → is_among ids ((id + n) % id_count) ≡ true
  found : (way ≡ looks) ⊎ (is_among ids ((id + way) % id_count) ≡ false)

same_mod : (id : ℕ) → id < id_count → (id + 0) % id_count ≡ id
same_mod id h = omega arith

-- the look at this id found it among ids, and the walk went on
walk_on : (looks id : ℕ) (ids : List ℕ) → id < id_count → is_among ids id ≡ true →
    Walk looks (id_after id) ids → Walk (suc looks) id ids
walk_on looks id ids h e w = record {
  way = w.way + 1;
  short = omega (arith, w.short);
  is = ap (λ b. cond b (free_from looks (id_after id) ids) id) e ∙ w.is ∙ after_by id w.way;
  passed = passed_on;
  found = found_on w.found;
}
  where
    passed_on : (n : ℕ) → n < w.way + 1 → is_among ids ((id + n) % id_count) ≡ true
    passed_on zero below_way = ap (is_among ids) (same_mod id h) ∙ e
    passed_on (suc n) below_way =
        let e : (id + suc n) % id_count ≡ (id_after id + n) % id_count = omega arith in
        ap (is_among ids) e ∙ w.passed n (omega arith)

    found_on : (w.way ≡ looks) ⊎ (is_among ids ((id_after id + w.way) % id_count) ≡ false) →
        (w.way + 1 ≡ suc looks) ⊎ (is_among ids ((id + (w.way + 1)) % id_count) ≡ false)
    found_on (inl all) = inl (omega (arith, all))
    found_on (inr free) = inr (ap (is_among ids) (sym (after_by id w.way)) ∙ free)

-- the look at this id found it free
walk_here : (looks id : ℕ) (ids : List ℕ) → id < id_count → is_among ids id ≡ false →
    Walk (suc looks) id ids
walk_here looks id ids h e = record {
  way = 0;
  short = omega arith;
  is = ap (λ b. cond b (free_from looks (id_after id) ids) id) e ∙ sym (same_mod id h);
  passed = λ n none. absurd (omega (arith, none));
  found = inr (ap (is_among ids) (same_mod id h) ∙ e);
}

walk : (looks id : ℕ) (ids : List ℕ) → id < id_count → Walk looks id ids
walk zero id ids h = record {
  way = 0;
  short = omega arith;
  is = sym (same_mod id h);
  passed = λ n none. absurd (omega (arith, none));
  found = inl refl;
}
walk (suc looks) id ids h =
    elim (cases_Bool (is_among ids id)) [
      | inl e ↦ walk_on looks id ids h e
          (walk looks (id_after id) ids (below id))
      | inr e ↦ walk_here looks id ids h e
    ]

-- a candidate is this id counted on by less than so many
record IsCandidate (n id q : ℕ) : Type 0 where
  way : ℕ
  short : way < n
  is : q ≡ (id + way) % id_count

candidate : (n id q : ℕ) → id < id_count → is_member nat_eq (candidates n id) q ≡ true →
    IsCandidate n id q
unfolding candidates
candidate zero id q h m = absurd (cc (m))
candidate (suc n) id q h m =
    elim (or_cases (nat_eq q id) (is_member nat_eq (candidates n (id_after id)) q) m) [
      | inl e ↦ record { way = 0; short = omega arith; is = eqb-true q id e ∙ sym (same_mod id h) }
      | inr e ↦ (let c = candidate n (id_after id) q (below id) e in
          record { way = c.way + 1; short = omega (arith, c.short); is = c.is ∙ after_by id c.way })
    ]

-- this id is not one of those after it, as long as these are fewer than all ids
apart : (n id q : ℕ) → n < id_count → id < id_count → IsCandidate n (id_after id) q →
    nat_eq id q ≡ false
apart n id q few h c = ne_eqb id q (λ e. omega (arith, c.short, c.is, e))

all_apart : (n id : ℕ) (qs : List ℕ) → n < id_count → id < id_count →
    ((q : ℕ) → is_member nat_eq qs q ≡ true → IsCandidate n (id_after id) q) →
    AllByRecursion (λ q. nat_eq id q ≡ false) qs
all_apart n id [] few h f = tt
all_apart n id (q ∷ qs) few h f =
    (apart n id q few h (f q here), all_apart n id qs few h (λ p m. f p (there p m)))
  where
    here : is_member nat_eq (q ∷ qs) q ≡ true
    here = rw (eq-eqb q q refl) refl

    there : (p : ℕ) → is_member nat_eq qs p ≡ true → is_member nat_eq (q ∷ qs) p ≡ true
    there p m = elim (cases_Bool (nat_eq p q)) [ inl e ↦ rw e refl | inr e ↦ rw e m ]

candidates_apart : (n id : ℕ) → n ≤ id_count → id < id_count → IsDistinct nat_eq (candidates n id)
unfolding candidates IsDistinct
candidates_apart zero id few h = tt
candidates_apart (suc n) id few h = (
  all_apart n id (candidates n (id_after id)) (omega arith) h
      (λ q m. candidate n (id_after id) q (below id) m),
  candidates_apart n (id_after id) (omega arith) (below id),
)

-- so many ids can't all be among fewer
not_all : (ids : List ℕ) (id : ℕ) → id < id_count → length ids < id_count →
    ((n : ℕ) → n < suc (length ids) → is_among ids ((id + n) % id_count) ≡ true) → ⊥
not_all ids id h few all = omega (arith, length-candidates (suc (length ids)) id, most)
  where
    member : (q : ℕ) → is_member nat_eq (candidates (suc (length ids)) id) q ≡ true →
        is_member nat_eq ids q ≡ true
    member q m = let c = candidate (suc (length ids)) id q h m in ap (is_among ids) c.is
        ∙ all c.way c.short

    most : length (candidates (suc (length ids)) id) ≤ length ids
    most = length-le_from_is_member nat_eq_equiv (candidates (suc (length ids)) id) ids
        (candidates_apart (suc (length ids)) id (omega arith) h) member

-- the last look needn't look: by then the id is free
free_at_last : (ids : List ℕ) (id : ℕ) → id < id_count → length ids < id_count →
    (w : Walk (length ids) id ids) → is_among ids ((id + w.way) % id_count) ≡ false
free_at_last ids id h few w =
    elim (w.found) [
      | inr free ↦ free
      | inl all ↦ elim
          (cases_Bool (is_among ids ((id + w.way) % id_count))) [
            | inr free ↦ free
            | inl taken ↦ absurd
                (not_all ids id h few (each all taken))
          ]
    ]
  where
    each : w.way ≡ length ids → is_among ids ((id + w.way) % id_count) ≡ true → (n : ℕ) →
        n < suc (length ids) → is_among ids ((id + n) % id_count) ≡ true
    each all taken n lt =
        elim (cases_lt n w.way) [
          | inl lower ↦ w.passed n lower
          | inr upper ↦ (let e : n ≡ w.way =
              omega arith in ap (λ k. is_among ids ((id + k) % id_count)) e ∙ taken)
        ]

pub first_free : (last : ℕ) (ids : List ℕ) → last < id_count → length ids < id_count →
    IsFirstFree last ids (fresh last ids)
first_free last ids h few = let w = walk (length ids) (id_after last) ids (below last) in record {
  way = w.way;
  short = w.short;
  is = w.is ∙ counted last w.way;
  free = ap (is_among ids) w.is ∙ free_at_last ids (id_after last) (below last) few w;
  passed = λ n lt. ap (is_among ids) (sym (counted last n)) ∙ w.passed n lt;
}
  where
    counted : (last n : ℕ) → (id_after last + n) % id_count ≡ (last + 1 + n) % id_count
    counted last n = omega arith

-- what comes after the last id isn't among those that wait
pub fresh_is_free : (last : ℕ) (ids : List ℕ) → last < id_count → length ids < id_count →
    is_among ids (fresh last ids) ≡ false
fresh_is_free last ids h few = (first_free last ids h few).free

-- a look that finds an id among those that wait goes on with the next
pub look_on : (n look id : ℕ) (ids : List ℕ) → look < n → is_among ids id ≡ true →
    free_from (n - look) id ids ≡ free_from (n - (look + 1)) (id_after id) ids
look_on n look id ids lt e =
    let more : n - look ≡ suc (n - (look + 1)) = omega arith in
    ap (λ k. free_from k id ids) more
    ∙ ap (λ b. cond b (free_from (n - (look + 1)) (id_after id) ids) id) e
