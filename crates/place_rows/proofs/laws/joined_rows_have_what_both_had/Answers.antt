use Rattle.place_rows.proofs.RowSplits.{joined_sent, rows_sent, joined_parts}
use Rattle.place_rows.proofs.laws.joined_rows_have_what_both_had.Goals as goal

pub returns : goal.returns
returns c = record { sent_at_one = joined_sent; sent = rows_sent; parts = joined_parts }
