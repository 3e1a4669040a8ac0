-- A pass that has met others has seen the same list as they have, and none of what is new is its
-- own.
use Rattle.std.proofs.Common.{◌++◌, ◌∙◌, ◌≡◌, List, Some, ap, subst, sym, ℕ}
use Rattle.std.specs.Prelude.{IfSome, option_map, slice_get}
use Rattle.histories.specs.declared.entry.Entry.{Entry}
use Rattle.live_runs.specs.Locks.{marked}
use Rattle.live_runs.specs.Seen.{all_theirs, entries}
use Rattle.live_passes.proofs.Turns.{TurnLaws, entries_of_share}
use Rattle.live_passes.specs.Views.{HasMetAt, seen_of, shares_of}
use Rattle.place_rows.specs.Joining.{Begins}
use Rattle.place_rows.specs.Meeting.{Sees, SharesAlone}
use Rattle.place_rows.specs.Rows.{Known}
use Rattle.turn_lock.specs.Views.{HasSeenOwn}
use mathlib.Core.List.{IsPrefix}

one_item : {X : Type 0} (x y : X) → Some x ≡ Some y → x ≡ y
one_item x y e = cc

module _ (laws : TurnLaws) (k : ℕ) (list : List Entry) (old new : List Known) (v w : Known)
    (had : slice_get old k ≡ Some v) (has : slice_get new k ≡ Some w)
    (alone : SharesAlone old new) (sees : Sees k list new) (begins : Begins k list old)
    (placed : HasSeenOwn v) where
  front : (rest : List Entry) × (v.seen ++ rest ≡ list)
  front = subst (λ o. IfSome (option_map (λ (u : Known). u.seen) o)
      (λ seen. IsPrefix seen list)) had begins

  seen_is : w.seen ≡ list
  seen_is = one_item w.seen list
      (ap (option_map (λ (u : Known). u.seen)) (sym has) ∙ sees)

  own_is : w.own ≡ v.own
  own_is = ap (λ (u : Known). u.own) (alone.each k v w had has)

  new_share : shares_of new k ≡ marked v.own list
  new_share = ap seen_of has ∙ ap (λ own. marked own w.seen) own_is
      ∙ ap (marked v.own) seen_is

  pub meets_so : HasMetAt k list old new
  unfolding front
  meets_so = record {
    rest = front.0;
    longer = new_share ∙ ap (marked v.own) (sym front.1)
        ∙ laws.met v.own v.seen front.0 placed
        ∙ ap (λ xs. xs ++ all_theirs front.0) (sym (ap seen_of had));
    met = ap entries new_share ∙ entries_of_share v.own list;
  }
