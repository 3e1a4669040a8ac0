use Rattle.place_rows.proofs.RowBalance.{joined_sound}
use Rattle.place_rows.proofs.laws.rows_are_balanced_together.Goals as goal

pub returns : goal.returns
returns c = joined_sound c.merged_places_are_those_of_both.ensures.ascend
