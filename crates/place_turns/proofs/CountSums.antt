-- Counts for the ports of others that say 0, and counts that are added to others.
use Rattle.std.proofs.Common.{◌≡◌, ◌≢◌, ◌<◌, ◌≤◌, ◌+◌, ◌^◌, ℕ, zero, suc, List, [], ◌∷◌, ◌++◌}
use Rattle.std.proofs.Common.{length, refl, sym, ap, ◌∙◌, subst, arith, inl, inr, Option, Some}
use Rattle.std.proofs.Common.{None, Bool, true, false, cond, append-nil, append_assoc}
use Rattle.std.specs.Prelude.{slice_get, slice_set, is_some, IsSome, ◌||◌, nat_eq}
use Rattle.std.specs.BTreeMap.{BTreeMap, get, is_at, IsEmpty}
use Rattle.std.specs.Cmp.{unsigned_ties}
use Rattle.std.specs.Map.{lookup}
use Rattle.std.specs.Ordering.{nat_cmp}
use Rattle.std.proofs.lemmas.Bool.{cases_Bool, eqb-true, eqb-false}
use Rattle.std.proofs.lemmas.List.{length-append, length-set}
use Rattle.std.proofs.lemmas.Option.{slice_get_within}
use mathlib.Core.List.{IsPrefix}
use Rattle.place_rows.specs.Rows.{TurnsOne}
use Rattle.place_turns.specs.Counts.{count_of, AreZeroed, HaveZeros, CanAdd, AreSums}
use Rattle.place_turns.specs.Counts.{CanAddAll, AreAllSums}
use Rattle.place_turns.proofs.PassTurns.{get_same, get_other, some_same}

same_key : (q p : ℕ) → is_at (nat_cmp q) p ≡ nat_eq q p
same_key q p = sym (unsigned_ties q p)

or_true : (b : Bool) → (b || true) ≡ true
or_true true = refl
or_true false = refl

or_false : (b : Bool) → (b || false) ≡ b
or_false true = refl
or_false false = refl

-- ---- zeros

-- of counts whose entries from here on have no count that says 0 yet
pub record ZerosSoFar (counts zeros : BTreeMap ℕ ℕ) (rest : List (ℕ × ℕ)) : Type 0 where
  pub none : (q : ℕ) → count_of (get nat_cmp zeros q) ≡ 0
  pub same : (q : ℕ) →
      (is_some (get nat_cmp zeros q) || is_some (lookup (is_at (nat_cmp q)) rest))
      ≡ is_some (get nat_cmp counts q)

pub none_so_far : (counts zeros : BTreeMap ℕ ℕ) (rest : List (ℕ × ℕ)) → IsEmpty zeros →
    rest ≡ counts.entries → ZerosSoFar counts zeros rest
none_so_far counts zeros rest empty is = record {
  none = λ q. ap (λ (es : List (ℕ × ℕ)). count_of (lookup (is_at (nat_cmp q)) es)) empty;
  same = λ q.
      ap (λ (es : List (ℕ × ℕ)). is_some (lookup (is_at (nat_cmp q)) es)
      || is_some (lookup (is_at (nat_cmp q)) rest)) empty
      ∙ ap (λ (es : List (ℕ × ℕ)). is_some (lookup (is_at (nat_cmp q)) es)) is;
}

pub one_zero : (counts olds news : BTreeMap ℕ ℕ) (p n : ℕ) (before rest : List (ℕ × ℕ)) →
    ZerosSoFar counts olds before → before ≡ (p, n) ∷ rest → get nat_cmp news p ≡ Some 0 →
    ((q : ℕ) → q ≢ p → get nat_cmp news q ≡ get nat_cmp olds q) → ZerosSoFar counts news rest
one_zero counts olds news p n before rest so_far is own others = record {
  none = λ q. elim (cases_Bool (nat_eq q p)) [
    | inl h ↦ ap (λ k. count_of (get nat_cmp news k)) (eqb-true q p h) ∙ ap count_of own
    | inr h ↦ ap count_of (others q (eqb-false q p h)) ∙ so_far.none q
  ];
  same = λ q. (let was = found q in
      elim (cases_Bool (nat_eq q p)) [
        | inl h ↦ ap (λ o. is_some o || is_some (lookup (is_at (nat_cmp q)) rest))
            (ap (get nat_cmp news) (eqb-true q p h) ∙ own)
            ∙ sym (or_true (is_some (get nat_cmp olds q)))
            ∙ ap (λ b. is_some (get nat_cmp olds q)
            || is_some (cond b (Some n) (lookup (is_at (nat_cmp q)) rest)))
            (sym (same_key q p ∙ h))
            ∙ was
        | inr h ↦ ap (λ o. is_some o || is_some (lookup (is_at (nat_cmp q)) rest))
            (others q (eqb-false q p h))
            ∙ ap (λ b. is_some (get nat_cmp olds q)
            || is_some (cond b (Some n) (lookup (is_at (nat_cmp q)) rest)))
            (sym (same_key q p ∙ h))
            ∙ was
      ]);
}
  where
    found : (q : ℕ) → (is_some (get nat_cmp olds q)
        || is_some (cond (is_at (nat_cmp q) p) (Some n) (lookup (is_at (nat_cmp q)) rest)))
        ≡ is_some (get nat_cmp counts q)
    found q =
        ap (λ (es : List (ℕ × ℕ)). is_some (get nat_cmp olds q)
        || is_some (lookup (is_at (nat_cmp q)) es)) (sym is)
        ∙ so_far.same q

pub all_zero : (counts zeros : BTreeMap ℕ ℕ) (rest : List (ℕ × ℕ)) →
    ZerosSoFar counts zeros rest → rest ≡ [] → AreZeroed counts zeros
all_zero counts zeros rest so_far none = record {
  none = so_far.none;
  same = λ q.
      sym (or_false (is_some (get nat_cmp zeros q)))
      ∙ ap (λ (es : List (ℕ × ℕ)). is_some (get nat_cmp zeros q)
      || is_some (lookup (is_at (nat_cmp q)) es)) (sym none)
      ∙ so_far.same q;
}

-- ---- items of longer lists

module _ {X : Type 0} where
  get_front : (xs : List X) (y : X) (k : ℕ) → k < length xs →
      slice_get (xs ++ y ∷ []) k ≡ slice_get xs k
  get_front [] y k few = absurd (omega (arith, few))
  get_front (x ∷ xs) y zero few = refl
  get_front (x ∷ xs) y (suc k) few = get_front xs y k (omega (arith, few))

  get_seam : (xs : List X) (y : X) (ys : List X) →
      slice_get (xs ++ y ∷ ys) (length xs) ≡ Some y
  get_seam [] y ys = refl
  get_seam (x ∷ xs) y ys = get_seam xs y ys

  pub begins_itself : (xs : List X) → IsPrefix xs xs
  begins_itself xs = ([], append-nil xs)

  pub no_longer : (xs ys : List X) → IsPrefix xs ys → length xs ≤ length ys
  no_longer xs ys p = omega (arith, sym (ap length p.1) ∙ length-append xs p.0)

  -- the last item of a beginning, and the beginning without it
  pub last_of : (whole xs rest : List X) (x : X) → IsPrefix xs whole → xs ≡ rest ++ x ∷ [] →
      (slice_get whole (length rest) ≡ Some x) × IsPrefix rest whole
  last_of whole xs rest x begins is =
      let parts : rest ++ x ∷ begins.0 ≡ whole =
      sym (append_assoc rest (x ∷ []) begins.0) ∙ ap (λ (l : List X). l ++ begins.0) (sym is)
      ∙ begins.1 in (
        ap (λ (l : List X). slice_get l (length rest)) (sym parts) ∙ get_seam rest x begins.0,
        (x ∷ begins.0, parts),
      )

-- ---- zeros of each place

pub no_zeros : (olds news : List (BTreeMap ℕ ℕ)) → news ≡ [] → HaveZeros 0 olds news
no_zeros olds news none = record {
  as_many = ap length none;
  each = λ k old new at also. absurd (omega (
    arith,
    slice_get_within news k new also,
    ap length none,
  ));
}

pub one_zeroed : (i : ℕ) (olds news more : List (BTreeMap ℕ ℕ)) (old new : BTreeMap ℕ ℕ) →
    HaveZeros i olds news → slice_get olds i ≡ Some old → AreZeroed old new →
    more ≡ news ++ new ∷ [] → HaveZeros (i + 1) olds more
one_zeroed i olds news more old new so_far at zeroed pushed = record {
  as_many = omega (arith, ap length pushed, length-append news (new ∷ []), so_far.as_many);
  each = λ k o n has also. elim (cases_Bool (nat_eq k i)) [
    | inl h ↦ (let e : k ≡ i = eqb-true k i h in
        let o_is : old ≡ o = some_same old o (sym at ∙ ap (slice_get olds) (sym e) ∙ has) in
        let n_is : new ≡ n =
        some_same new n (sym (get_seam news new [])
        ∙ ap (slice_get (news ++ new ∷ [])) (so_far.as_many ∙ sym e)
        ∙ ap (λ (l : List (BTreeMap ℕ ℕ)). slice_get l k) (sym pushed) ∙ also) in
        subst (λ x. AreZeroed o x) n_is (subst (λ x. AreZeroed x new) o_is zeroed))
    | inr h ↦ so_far.each k o n has
        (sym (get_front news new k (omega (
          arith,
          slice_get_within more k n also,
          ap length pushed,
          length-append news (new ∷ []),
          so_far.as_many,
          eqb-false k i h,
        )))
        ∙ ap (λ (l : List (BTreeMap ℕ ℕ)). slice_get l k) (sym pushed) ∙ also)
  ];
}

-- ---- adding

-- of these counts and those, from which some were taken and added to these
pub record AddedSoFar (intos froms into from : BTreeMap ℕ ℕ) : Type 0 where
  pub sums : (q : ℕ) → count_of (get nat_cmp into q) + count_of (get nat_cmp from q)
      ≡ count_of (get nat_cmp intos q) + count_of (get nat_cmp froms q)
  pub same : (q : ℕ) → is_some (get nat_cmp into q) ≡ is_some (get nat_cmp intos q)
  pub there : (q : ℕ) → IsSome (get nat_cmp from q) → IsSome (get nat_cmp froms q)

pub none_added : (into from : BTreeMap ℕ ℕ) → AddedSoFar into from into from
none_added into from = record { sums = λ q. refl; same = λ q. refl; there = λ q some. some }

module _ (intos froms into from : BTreeMap ℕ ℕ) (can : CanAdd intos froms)
    (so_far : AddedSoFar intos froms into from) (p n : ℕ) (has : get nat_cmp from p ≡ Some n) where
  pub still_there : IsSome (get nat_cmp into p)
  still_there =
      so_far.same p
      ∙ can.there p (so_far.there p (subst (λ (o : Option ℕ). IsSome o) (sym has) refl))

  pub still_fits : count_of (get nat_cmp into p) + n < 2 ^ 64
  still_fits = omega (arith, so_far.sums p, can.fits p, ap count_of has)

  pub one_added : (more rest : BTreeMap ℕ ℕ) → get nat_cmp rest p ≡ None →
      ((q : ℕ) → q ≢ p → get nat_cmp rest q ≡ get nat_cmp from q) →
      get nat_cmp more p ≡ Some (count_of (get nat_cmp into p) + n) →
      ((q : ℕ) → q ≢ p → get nat_cmp more q ≡ get nat_cmp into q) →
      AddedSoFar intos froms more rest
  one_added more rest gone left own others = record {
    sums = λ q. elim (cases_Bool (nat_eq q p)) [
      | inl h ↦ subst (λ k. count_of (get nat_cmp more k) + count_of (get nat_cmp rest k)
          ≡ count_of (get nat_cmp intos k) + count_of (get nat_cmp froms k))
          (sym (eqb-true q p h))
          (omega (
            arith,
            so_far.sums p,
            ap count_of has,
            ap count_of own,
            ap count_of gone,
          ))
      | inr h ↦ omega (
        arith,
        so_far.sums q,
        ap count_of (others q (eqb-false q p h)),
        ap count_of (left q (eqb-false q p h)),
      )
    ];
    same = λ q. elim (cases_Bool (nat_eq q p)) [
      | inl h ↦ subst (λ k. is_some (get nat_cmp more k) ≡ is_some (get nat_cmp intos k))
          (sym (eqb-true q p h))
          (ap (λ (o : Option ℕ). is_some o) own ∙ sym still_there ∙ so_far.same p)
      | inr h ↦ ap (λ (o : Option ℕ). is_some o) (others q (eqb-false q p h)) ∙ so_far.same q
    ];
    there = λ q some. elim (cases_Bool (nat_eq q p)) [
      | inl h ↦ so_far.there q
          (subst (λ k. IsSome (get nat_cmp from k)) (sym (eqb-true q p h))
          (subst (λ (o : Option ℕ). IsSome o) (sym has) refl))
      | inr h ↦ so_far.there q
          (subst (λ (o : Option ℕ). IsSome o) (left q (eqb-false q p h)) some)
    ];
  }

pub all_added : (intos froms into from : BTreeMap ℕ ℕ) → AddedSoFar intos froms into from →
    ((q : ℕ) → get nat_cmp from q ≡ None) → AreSums intos froms into
all_added intos froms into from so_far none = record {
  sums = λ q. omega (arith, so_far.sums q, ap count_of (none q));
  same = so_far.same;
}

-- ---- adding place by place

pub none_summed : (intos froms : List (BTreeMap ℕ ℕ)) →
    AreAllSums (length froms) intos froms intos
none_summed intos froms = record {
  done = λ k into from after most at also has.
      absurd (omega (arith, most, slice_get_within froms k from also));
  rest = λ k few. refl;
  as_many = refl;
}

pub can_there : (n : ℕ) (intos froms afters : List (BTreeMap ℕ ℕ)) (from : BTreeMap ℕ ℕ) →
    CanAddAll intos froms → AreAllSums (n + 1) intos froms afters →
    slice_get froms n ≡ Some from → (into : BTreeMap ℕ ℕ) → slice_get afters n ≡ Some into →
    CanAdd into from
can_there n intos froms afters from can so_far has into at =
    can.each n into from (sym (so_far.rest n (omega arith)) ∙ at) has

pub one_summed : (n : ℕ) (intos froms afters more : List (BTreeMap ℕ ℕ)) (from : BTreeMap ℕ ℕ) →
    AreAllSums (n + 1) intos froms afters → slice_get froms n ≡ Some from →
    TurnsOne n afters more (λ old new. AreSums old from new) → AreAllSums n intos froms more
one_summed n intos froms afters more from so_far has one = record {
  done = λ k into f after most at also there. elim (cases_Bool (nat_eq k n)) [
    | inl h ↦ (let e : k ≡ n = eqb-true k n h in
        let was : one.before ≡ into =
        some_same one.before into (sym one.had ∙ so_far.rest n (omega arith)
        ∙ ap (slice_get intos) (sym e) ∙ at) in
        let it : from ≡ f = some_same from f (sym has ∙ ap (slice_get froms) (sym e) ∙ also) in
        let is : one.after ≡ after =
        some_same one.after after
        (sym (get_same afters n one.after (slice_get_within afters n one.before one.had))
        ∙ ap (slice_get (slice_set afters n one.after)) (sym e)
        ∙ ap (λ (l : List (BTreeMap ℕ ℕ)). slice_get l k) (sym one.has) ∙ there) in
        subst (λ x. AreSums into f x) is
        (subst (λ x. AreSums into x one.after) it
        (subst (λ x. AreSums x from one.after) was one.turns)))
    | inr h ↦ so_far.done k into f after (omega (arith, most, eqb-false k n h)) at also
        (sym (get_other afters n k one.after (eqb-false k n h))
        ∙ ap (λ (l : List (BTreeMap ℕ ℕ)). slice_get l k) (sym one.has) ∙ there)
  ];
  rest = λ k few. ap (λ (l : List (BTreeMap ℕ ℕ)). slice_get l k) one.has
      ∙ get_other afters n k one.after (λ same. absurd (omega (arith, few, same)))
      ∙ so_far.rest k (omega (arith, few));
  as_many = ap length one.has ∙ length-set afters n one.after ∙ so_far.as_many;
}
