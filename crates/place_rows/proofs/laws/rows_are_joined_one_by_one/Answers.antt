use Rattle.place_rows.proofs.RowJoins.{none_joined, all_step, whole_parts}
use Rattle.place_rows.proofs.laws.rows_are_joined_one_by_one.Goals as goal

pub returns : goal.returns
returns c = record {
  none = none_joined;
  one = λ rows into before from after. all_step rows into before from after;
  none_timed = none_joined;
  one_timed = λ rows into before from after. all_step rows into before from after;
  whole = λ places into after rows. whole_parts places into after rows;
}
