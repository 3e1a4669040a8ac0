-- Counts of passes that were split, split off, or joined.
use Rattle.std.proofs.Common.{◌≡◌, ◌+◌, ℕ, zero, suc, List, [], ◌∷◌, length, refl, sym}
use Rattle.std.proofs.Common.{ap, ◌∙◌, subst, arith}
use Rattle.std.specs.Prelude.{map, slice_get, Option, Some, None, IfSome}
use Rattle.std.specs.BTreeMap.{BTreeMap}
use Rattle.std.proofs.lemmas.List.{length-map}
use Rattle.std.proofs.lemmas.Option.{slice_get_within}
use Rattle.turn_lock.specs.Places.{Ascends, NoneInCommon, merged}
use Rattle.turn_lock.specs.Views as lock
use Rattle.turn_lock.specs.Views.{HasSeenOwn, kept_view, split_view, joined_view}
use Rattle.locked_place.specs.Points.{points}
use Rattle.locked_place.specs.Views.{PlaceLabel, label_of}
use Rattle.place_rows.specs.Joining.{Joins, RowJoined}
use Rattle.place_rows.specs.Rows.{Known, AreKnown}
use Rattle.place_rows.specs.Shares.{sent_at}
use Rattle.place_turns.specs.Counts.{most_entries, IsCounted, AreCounted, AreZeroed}
use Rattle.place_turns.specs.Counts.{HaveZeros, CanAdd, CanAddAll, AreSums, AreAllSums}
use Rattle.place_turns.proofs.JoinedRows.{joined_of}
use Rattle.place_turns.proofs.NoticeCounts.{counts_there, places_few, ascend_few}
use Rattle.place_turns.proofs.PassTurns.{some_same}
use Rattle.place_turns.proofs.ToldCounts.{item_at}

-- what an item was made of
record MadeOf (f : Known → Known) (known : List Known) (k : ℕ) (w : Known) : Type 0 where
  of : Known
  at : slice_get known k ≡ Some of
  is : f of ≡ w

made_of : (f : Known → Known) (known : List Known) (k : ℕ) (w : Known) →
    slice_get (map f known) k ≡ Some w → MadeOf f known k w
made_of f [] k w at = absurd (cc at)
made_of f (v ∷ known) zero w at = record { of = v; at = refl; is = some_same (f v) w at }
made_of f (v ∷ known) (suc k) w at =
    let made = made_of f known k w at in
    record { of = made.of; at = made.at; is = made.is }

-- ---- splitting

kept_one : (v : Known) (counts : BTreeMap ℕ ℕ) → IsCounted v counts →
    IsCounted (kept_view v) counts
kept_one v counts is =
    record { many = is.many; there = is.there; only = is.only; few = is.few }

pub kept_counted : (known : List Known) (counts : List (BTreeMap ℕ ℕ)) →
    AreCounted known counts → AreCounted (map kept_view known) counts
kept_counted known counts are = record {
  as_many = are.as_many ∙ sym (length-map known kept_view);
  each = λ k w at.
      let made = made_of kept_view known k w at in
      subst (λ (x : Known). IfSome (slice_get counts k) (IsCounted x)) made.is
      (inner made.of (slice_get counts k) (are.each k made.of made.at));
}
  where
    inner : (v : Known) (o : Option (BTreeMap ℕ ℕ)) → IfSome o (IsCounted v) →
        IfSome o (IsCounted (kept_view v))
    inner v None is = tt
    inner v (Some c) is = kept_one v c is

split_one : (v : Known) (counts zeros : BTreeMap ℕ ℕ) → IsCounted v counts →
    AreZeroed counts zeros → IsCounted (split_view v) zeros
split_one v counts zeros is zeroed = record {
  many = λ port. sym (zeroed.none port);
  there = λ named label port some. zeroed.same port ∙ is.there named label port some;
  only = λ named label port some. is.only named label port (sym (zeroed.same port) ∙ some);
  few = tt;
}

pub split_counted : (known : List Known) (counts zeros : List (BTreeMap ℕ ℕ)) →
    AreCounted known counts → HaveZeros (length counts) counts zeros →
    AreCounted (map split_view known) zeros
split_counted known counts zeros are have = record {
  as_many = have.as_many ∙ are.as_many ∙ sym (length-map known split_view);
  each = λ k w at.
      let made = made_of split_view known k w at in
      subst (λ (x : Known). IfSome (slice_get zeros k) (IsCounted x)) made.is
      (inner k made.of made.at (slice_get zeros k) refl);
}
  where
    inner : (k : ℕ) (v : Known) → slice_get known k ≡ Some v → (o : Option (BTreeMap ℕ ℕ)) →
        slice_get zeros k ≡ o → IfSome o (IsCounted (split_view v))
    inner k v at None is = tt
    inner k v at (Some z) is =
        let c = item_at counts k
        (omega (arith, slice_get_within known k v at, are.as_many)) in
        split_one v c.0 z (counts_there known counts k v c.0 are at c.1)
        (have.each k c.0 z c.1 is)

-- ---- joining

-- what the laws say of two passes that are joined
pub record Laws : Type 0 where
  pub sent : (port : ℕ) (v w after : Known) → HasSeenOwn v → HasSeenOwn w → Joins w v after →
      sent_at port after ≡ sent_at port v + sent_at port w
  pub ascend : (low high : ℕ) (xs ys : List ℕ) → Ascends low high xs → Ascends low high ys →
      NoneInCommon xs ys → Ascends low high (merged xs ys)

module _ (laws : Laws) (named : PlaceLabel) (v w after : Known) (olds more : BTreeMap ℕ ℕ)
    (one : HasSeenOwn v) (two : HasSeenOwn w) (joins : Joins w v after)
    (is : IsCounted v olds) (too : IsCounted w more) where
  own_few : Ascends 0 most_entries after.own
  own_few =
      subst (λ (x : Known). Ascends 0 most_entries x.own) (sym joins.is)
      (laws.ascend 0 most_entries v.own w.own is.few too.few joins.apart)

  can_add : lock.label_of label_of v ≡ Some named → lock.label_of label_of w ≡ Some named →
      CanAdd olds more
  can_add label also = record {
    there = λ port some. is.there named label port (too.only named also port some);
    fits = λ port. omega (
      arith,
      is.many port,
      too.many port,
      laws.sent port v w after one two joins,
      places_few port (points after.seen) after.own,
      ascend_few 0 most_entries after.own own_few,
    );
  }

  joined_one : (sums : BTreeMap ℕ ℕ) → AreSums olds more sums → IsCounted after sums
  joined_one sums are = record {
    many = λ port. omega (
      arith,
      is.many port,
      too.many port,
      laws.sent port v w after one two joins,
      are.sums port,
    );
    there = λ other label port some.
        are.same port
        ∙ is.there other (ap (λ (x : Known). lock.label_of label_of x) (sym joins.is) ∙ label)
        port some;
    only = λ other label port some.
        is.only other (ap (λ (x : Known). lock.label_of label_of x) (sym joins.is) ∙ label) port
        (sym (are.same port) ∙ some);
    few = own_few;
  }

module _ (laws : Laws) (named : ℕ → PlaceLabel) (intos froms afters : List Known)
    (olds more : List (BTreeMap ℕ ℕ))
    (one : (k : ℕ) (v : Known) → slice_get intos k ≡ Some v → HasSeenOwn v)
    (two : (k : ℕ) (v : Known) → slice_get froms k ≡ Some v → HasSeenOwn v)
    (are : AreCounted intos olds) (also : AreCounted froms more)
    (row : RowJoined 0 intos froms afters) where
  pub can_add_all : AreKnown label_of named intos → AreKnown label_of named froms →
      CanAddAll olds more
  can_add_all known too = record {
    both = also.as_many ∙ row.both ∙ sym are.as_many;
    each = λ k c d at has.
        let few = slice_get_within olds k c at in
        let u = item_at afters k (omega (arith, few, are.as_many, row.as_many)) in
        let j = joined_of intos froms afters row k u.0 u.1 in
        can_add laws (named k) j.into j.from u.0 c d (one k j.into j.into_at)
        (two k j.from j.from_at) j.joins
        (counts_there intos olds k j.into c are j.into_at at)
        (counts_there froms more k j.from d also j.from_at has)
        (known k j.into j.into_at).named_so (too k j.from j.from_at).named_so;
  }

  pub joined_counted : (sums : List (BTreeMap ℕ ℕ)) → AreAllSums 0 olds more sums →
      AreCounted afters sums
  joined_counted sums added = record {
    as_many = added.as_many ∙ are.as_many ∙ sym row.as_many;
    each = λ k u at. inner k u at (slice_get sums k) refl;
  }
    where
      inner : (k : ℕ) (u : Known) → slice_get afters k ≡ Some u →
          (o : Option (BTreeMap ℕ ℕ)) → slice_get sums k ≡ o → IfSome o (IsCounted u)
      inner k u at None is = tt
      inner k u at (Some s) is =
          let few = slice_get_within afters k u at in
          let j = joined_of intos froms afters row k u at in
          let c = item_at olds k (omega (arith, few, row.as_many, are.as_many)) in
          let d = item_at more k
          (omega (arith, few, row.as_many, row.both, also.as_many)) in
          joined_one laws (named k) j.into j.from u c.0 d.0 (one k j.into j.into_at)
          (two k j.from j.from_at) j.joins
          (counts_there intos olds k j.into c.0 are j.into_at c.1)
          (counts_there froms more k j.from d.0 also j.from_at d.1) s
          (added.done k c.0 d.0 s (omega arith) c.1 d.1 is)
