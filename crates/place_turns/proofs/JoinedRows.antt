-- What the passes of a joined row were made of.
use Rattle.std.proofs.Common.{◌≡◌, ℕ, List, Some, sym, ◌∙◌, subst, arith}
use Rattle.std.specs.Prelude.{slice_get}
use Rattle.std.proofs.lemmas.Option.{slice_get_within}
use Rattle.turn_lock.specs.declared.view.View.{View}
use Rattle.place_rows.specs.Joining.{Joins, RowJoined}
use Rattle.place_turns.proofs.PassTurns.{some_same}
use Rattle.place_turns.proofs.ToldCounts.{item_at}

module _ {E S : Type 0} where
  -- of two rows that are joined, what one pass was made of
  pub record JoinedOf (intos froms : List (View E S)) (k : ℕ) (u : View E S) : Type 0 where
    pub into : View E S
    pub from : View E S
    pub into_at : slice_get intos k ≡ Some into
    pub from_at : slice_get froms k ≡ Some from
    pub joins : Joins from into u

  pub joined_of : (intos froms afters : List (View E S)) → RowJoined 0 intos froms afters →
      (k : ℕ) (u : View E S) → slice_get afters k ≡ Some u → JoinedOf intos froms k u
  joined_of intos froms afters row k u at =
      let few = slice_get_within afters k u at in
      let v = item_at intos k (omega (arith, few, row.as_many)) in
      let w = item_at froms k (omega (arith, few, row.as_many, row.both)) in
      let done = row.done k v.0 w.0 (omega arith) v.1 w.1 in
      record {
        into = v.0;
        from = w.0;
        into_at = v.1;
        from_at = w.1;
        joins = subst (Joins w.0 v.0) (some_same done.after u (sym done.at ∙ at)) done.turns;
      }
