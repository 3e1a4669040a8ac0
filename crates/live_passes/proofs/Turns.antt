-- A turn of a pass at a place, in the list of its marked entries.
use Rattle.std.proofs.Common.{◌++◌, ◌+◌, ◌-◌, ◌∙◌, ◌∷◌, ◌≡◌, ◌≢◌, ◌≤◌, ◌⊎◌, Bool, List, Some, []}
use Rattle.std.proofs.Common.{ap, arith, false, inl, inr, length, refl, subst, suc, sym, true, zero}
use Rattle.std.proofs.Common.{ℕ}
use Rattle.std.proofs.lemmas.Bool.{cases_Bool, eq-eqb, eqb-true}
use Rattle.std.proofs.lemmas.List.{length-append}
use Rattle.std.specs.List.{range_with_len}
use Rattle.std.specs.Prelude.{◌==◌, if◌then◌else◌, slice_get, slice_set}
use Rattle.histories.specs.declared.entry.Entry.{Entry}
use Rattle.live_runs.specs.Calls.{IsTurn}
use Rattle.live_runs.specs.Locks.{is_in, marked, marked_from}
use Rattle.live_runs.specs.Seen.{Ours, Theirs, all_theirs, entries}
use Rattle.live_passes.specs.Views.{seen_of, shares_of}
use Rattle.place_rows.specs.Rows.{Known}
use Rattle.turn_lock.specs.Places.{Ascends, places_after}
use Rattle.turn_lock.specs.Views.{HasSeenOwn}
use Rattle.locked_place.specs.Turns as lock

-- what is known of turns of locks, and of what goes on
pub record TurnLaws : Type 0 where
  pub turn : (own : List ℕ) (seen others mine : List Entry) → Ascends 0 (length seen) own →
      IsTurn others mine (marked own seen)
      (marked (own ++ places_after (seen ++ others) ((seen ++ others) ++ mine))
      ((seen ++ others) ++ mine))
  pub met : (own : List ℕ) (seen others : List Entry) → Ascends 0 (length seen) own →
      marked own (seen ++ others) ≡ marked own seen ++ all_theirs others

marked_entries : (own : ℕ → Bool) (at : ℕ) (es : List Entry) →
    entries (marked_from own at es) ≡ es
marked_entries own at [] = refl
marked_entries own at (e ∷ es) = by (own at) (marked_entries own (at + 1) es)
  where
    by : (c : Bool) → entries (marked_from own (at + 1) es) ≡ es →
        entries ((if c then Ours e else Theirs e) ∷ marked_from own (at + 1) es) ≡ e ∷ es
    by true same = ap (λ (fs : List Entry). e ∷ fs) same
    by false same = ap (λ (fs : List Entry). e ∷ fs) same

pub entries_of_share : (own : List ℕ) (seen : List Entry) → entries (marked own seen) ≡ seen
entries_of_share own seen = marked_entries (is_in own) 0 seen

-- ---- lists of which one item changes

module _ {X : Type 0} where
  get_same : (xs : List X) (i : ℕ) (v w : X) → slice_get xs i ≡ Some v →
      slice_get (slice_set xs i w) i ≡ Some w
  get_same [] i v w is = absurd (cc)
  get_same (x ∷ xs) zero v w is = refl
  get_same (x ∷ xs) (suc i) v w is = get_same xs i v w is

  get_other : (xs : List X) (i j : ℕ) (w : X) → j ≢ i →
      slice_get (slice_set xs i w) j ≡ slice_get xs j
  get_other [] i j w h = refl
  get_other (x ∷ xs) zero zero w h = absurd (h refl)
  get_other (x ∷ xs) zero (suc j) w h = refl
  get_other (x ∷ xs) (suc i) zero w h = refl
  get_other (x ∷ xs) (suc i) (suc j) w h = get_other xs i j w (λ e. h (ap suc e))

  one_item : (x y : X) → Some x ≡ Some y → x ≡ y
  one_item x y e = cc

-- ---- places

range_ascends : (low n : ℕ) → Ascends low (low + n) (range_with_len low n)
range_ascends low zero = tt
range_ascends low (suc n) =
    let same : low + suc n ≡ (low + 1) + n = omega arith in (
      omega arith,
      (
        omega arith,
        subst (λ high. Ascends (low + 1) high (range_with_len (low + 1) n)) (sym same)
            (range_ascends (low + 1) n),
      ),
    )

ascends_on : (low mid high : ℕ) (xs ys : List ℕ) → low ≤ mid → mid ≤ high →
    Ascends low mid xs → Ascends mid high ys → Ascends low high (xs ++ ys)
ascends_on low mid high [] [] less more one two = tt
ascends_on low mid high [] (y ∷ ys) less more one two =
    (omega (arith, less, two.0), two.1)
ascends_on low mid high (x ∷ xs) ys less more one two =
    let below = one.1.0 in (
      one.0,
      (
        omega (arith, below, more),
        ascends_on (x + 1) mid high xs ys (omega (arith, below)) more one.1.1 two,
      ),
    )

-- a turn keeps the places of a pass's own entries
placed_on : (own : List ℕ) (seen others mine : List Entry) → Ascends 0 (length seen) own →
    Ascends 0 (length ((seen ++ others) ++ mine))
    (own ++ places_after (seen ++ others) ((seen ++ others) ++ mine))
placed_on own seen others mine placed =
    let found = seen ++ others in
    let long = length-append seen others in
    let whole = length-append found mine in
    let count = length (found ++ mine) - length found in
    let same : length found + count ≡ length (found ++ mine) = omega (arith, whole) in
    ascends_on 0 (length found) (length (found ++ mine)) own (range_with_len (length found) count)
    (omega arith) (omega (arith, whole))
    (higher 0 (length seen) (length found) own (omega (arith, long)) placed)
    (subst (λ high. Ascends (length found) high (range_with_len (length found) count)) same
    (range_ascends (length found) count))
  where
    higher : (low high top : ℕ) (xs : List ℕ) → high ≤ top → Ascends low high xs →
        Ascends low top xs
    higher low high top [] less are = tt
    higher low high top (x ∷ xs) less are =
        let below = are.1.0 in
        (are.0, (omega (arith, below, less), higher (x + 1) high top xs less are.1.1))

-- ---- a turn at a place

-- what a turn of a row at a place is to its shares
pub record TurnedAt (place : ℕ) (olds news : List Known) (found mine : List Entry) : Type 0 where
  pub others : List Entry
  pub found_so : found ≡ entries (shares_of olds place) ++ others
  pub turn : IsTurn others mine (shares_of olds place) (shares_of news place)
  pub elsewhere : (k : ℕ) → k ≢ place → shares_of news k ≡ shares_of olds k

abbrev pub AreInPlace : List Known → Type 0
AreInPlace known = (k : ℕ) (v : Known) → slice_get known k ≡ Some v → HasSeenOwn v

module _ (laws : TurnLaws) (place : ℕ) (olds news : List Known) (v w : Known)
    (had : slice_get olds place ≡ Some v) (has : news ≡ slice_set olds place w)
    (placed : AreInPlace olds) (found mine : List Entry)
    (turns : lock.IsTurn v found (found ++ mine) w) where
  others : List Entry
  others = turns.begins.0

  found_is : found ≡ v.seen ++ others
  unfolding others
  found_is = sym turns.begins.1

  new_seen : slice_get news place ≡ Some w
  new_seen = ap (λ ws. slice_get ws place) has ∙ get_same olds place v w had

  old_share : shares_of olds place ≡ marked v.own v.seen
  old_share = ap seen_of had

  whole_is : found ++ mine ≡ (v.seen ++ others) ++ mine
  whole_is = ap (λ es. es ++ mine) found_is

  new_share : shares_of news place
      ≡ marked (v.own ++ places_after (v.seen ++ others) ((v.seen ++ others) ++ mine))
      ((v.seen ++ others) ++ mine)
  new_share = ap seen_of new_seen ∙ ap (λ (u : Known). marked u.own u.seen) turns.left
      ∙ ap (λ es. marked (v.own ++ places_after es (es ++ mine)) (es ++ mine)) found_is

  pub turned_at : TurnedAt place olds news found mine
  turned_at = record {
    others = others;
    found_so = found_is ∙ ap (λ es. es ++ others)
        (sym (ap entries old_share ∙ entries_of_share v.own v.seen));
    turn = subst (λ xs. IsTurn others mine xs (shares_of news place)) (sym old_share)
        (subst (IsTurn others mine (marked v.own v.seen)) (sym new_share)
        (laws.turn v.own v.seen others mine (placed place v had)));
    elsewhere = λ k other. ap seen_of
        (ap (λ ws. slice_get ws k) has ∙ get_other olds place k w other);
  }

  pub placed_at : AreInPlace news
  placed_at k u is = by (cases_Bool (k == place))
    where
      own_place : HasSeenOwn w
      own_place = subst HasSeenOwn (sym turns.left)
          (subst (λ es. Ascends 0 (length (es ++ mine)) (v.own ++ places_after es (es ++ mine)))
          (sym found_is) (placed_on v.own v.seen others mine (placed place v had)))

      by : ((k == place) ≡ true) ⊎ ((k == place) ≡ false) → HasSeenOwn u
      by (inl same) = subst HasSeenOwn (one_item w u (sym new_seen
          ∙ ap (slice_get news) (sym (eqb-true k place same)) ∙ is)) own_place
      by (inr other) = placed k u (sym (ap (λ ws. slice_get ws k) has
          ∙ get_other olds place k w (λ same. no_way (eq-eqb k place same))) ∙ is)
        where
          no_way : (k == place) ≡ true → ⊥
          no_way wrong = absurd (cc)
