use Rattle.std.proofs.Common.{[]}
use Rattle.place_rows.proofs.RowSplits.{kept_balanced, split_balanced, split_sent, split_parts}
use Rattle.place_rows.proofs.laws.splitting_changes_nothing_of_ones_own.Goals as goal

pub returns : goal.returns
returns c = record {
  keeps = kept_balanced;
  made = λ s owed entered known lost is.
      split_balanced s owed entered known lost
      (c.rows_stay_balanced.ensures.begins s [] (λ k v at. absurd (cc at))) is;
  sent = split_sent;
  parts = split_parts c.parts_are_put_together_in_any_order.ensures.back;
}
