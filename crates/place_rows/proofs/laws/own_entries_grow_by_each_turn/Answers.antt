use Rattle.histories.specs.Moves.{moves_after}
use Rattle.place_rows.proofs.ItemSums.{own_after, moves_longer, moves_long}
use Rattle.place_rows.proofs.RowBalance.{sent_after}
use Rattle.place_rows.proofs.laws.own_entries_grow_by_each_turn.Goals as goal

pub returns : goal.returns
returns c = record {
  moves = own_after moves_after moves_longer moves_long;
  sent = sent_after;
}
