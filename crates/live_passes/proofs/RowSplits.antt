-- What rows have seen that are split and joined.
use Rattle.std.proofs.Common.{◌≡◌, ◌∙◌, ◌∷◌, List, None, Option, Some, [], ap, arith, length, refl}
use Rattle.std.proofs.Common.{subst, suc, sym, zero, ℕ}
use Rattle.std.proofs.lemmas.Option.{slice_get-map}
use Rattle.std.specs.Prelude.{map, option_map, slice_get}
use mathlib.Core.List.{IsPrefix}
use Rattle.histories.specs.declared.entry.Entry.{Entry}
use Rattle.turn_lock.specs.Places.{Ascends, NoneInCommon, longer, merged}
use Rattle.turn_lock.specs.Views.{kept_view, split_view}
use Rattle.place_rows.specs.Joining.{Joins, RowJoined}
use Rattle.place_rows.specs.Rows.{Known}
use Rattle.live_runs.specs.Locks.{marked}
use Rattle.live_runs.specs.Seen.{all_theirs, entries}
use Rattle.shared_feeding.specs.Joining.{IsJoinedOf}
use Rattle.live_passes.specs.Views.{HaveSeenOwn, seen_of, shares_of}

pub kept_so : (known : List Known) (k : ℕ) →
    shares_of (map kept_view known) k ≡ shares_of known k
kept_so known k = ap seen_of (slice_get-map kept_view known k) ∙ by (slice_get known k)
  where
    by : (o : Option Known) → seen_of (option_map kept_view o) ≡ seen_of o
    by None = refl
    by (Some v) = refl

abbrev pub SplitLaw : Type 0
SplitLaw = (own : List ℕ) (seen : List Entry) →
    marked [] seen ≡ all_theirs (entries (marked own seen))

abbrev pub JoinedLaw : Type 0
JoinedLaw = (own other : List ℕ) (seen found : List Entry) → Ascends 0 (length seen) own →
    Ascends 0 (length found) other → NoneInCommon own other →
    IsPrefix seen (longer seen found) → IsPrefix found (longer seen found) →
    IsJoinedOf (marked own seen) (marked other found)
    (marked (merged own other) (longer seen found))

pub split_so : SplitLaw → (known : List Known) (k : ℕ) →
    shares_of (map split_view known) k ≡ all_theirs (entries (shares_of known k))
split_so law known k = ap seen_of (slice_get-map split_view known k) ∙ by (slice_get known k)
  where
    by : (o : Option Known) → seen_of (option_map split_view o) ≡ all_theirs (entries (seen_of o))
    by None = refl
    by (Some v) = law v.own v.seen

-- rows as long as each other have no more places than each other
both_end : (xs ys : List Known) (k : ℕ) → length ys ≡ length xs → slice_get xs k ≡ None →
    slice_get ys k ≡ None
both_end xs [] k same none = refl
both_end [] (y ∷ ys) k same none = absurd (omega (arith, same))
both_end (x ∷ xs) (y ∷ ys) zero same none = absurd (cc)
both_end (x ∷ xs) (y ∷ ys) (suc k) same none = both_end xs ys k (omega (arith, same)) none

joins_so : JoinedLaw → (v w u : Known) → Ascends 0 (length v.seen) v.own →
    Ascends 0 (length w.seen) w.own → Joins w v u →
    IsJoinedOf (marked v.own v.seen) (marked w.own w.seen) (marked u.own u.seen)
joins_so law v w u placed others j =
    subst (λ (z : Known). IsJoinedOf (marked v.own v.seen) (marked w.own w.seen)
    (marked z.own z.seen)) (sym j.is)
    (law v.own w.own v.seen w.seen placed others j.apart
    (subst (λ (z : Known). IsPrefix v.seen z.seen) j.is j.first)
    (subst (λ (z : Known). IsPrefix w.seen z.seen) j.is j.second))

pub joined_so : JoinedLaw → (intos froms afters : List Known) → HaveSeenOwn intos →
    HaveSeenOwn froms → RowJoined 0 intos froms afters → (k : ℕ) →
    IsJoinedOf (shares_of intos k) (shares_of froms k) (shares_of afters k)
joined_so law intos froms afters own other row k =
    by (slice_get intos k) refl (slice_get froms k) refl
  where
    by : (o : Option Known) → slice_get intos k ≡ o → (p : Option Known) →
        slice_get froms k ≡ p → IsJoinedOf (seen_of o) (seen_of p) (shares_of afters k)
    by None none p found =
        let no_more : slice_get afters k ≡ None = both_end intos afters k row.as_many none in
        let none_either : slice_get froms k ≡ None = both_end intos froms k row.both none in
        ap seen_of no_more ∙ ap seen_of (sym none_either ∙ found)
    by (Some v) had None none =
        let wrong : slice_get intos k ≡ None = both_end froms intos k (sym row.both) none in
        absurd (cc)
    by (Some v) had (Some w) found =
        let turned = row.done k v w (omega arith) had found in
        subst (λ o. IsJoinedOf (marked v.own v.seen) (marked w.own w.seen) (seen_of o))
        (sym turned.at)
        (joins_so law v w turned.after (own.placed k v had) (other.placed k w found) turned.turns)
