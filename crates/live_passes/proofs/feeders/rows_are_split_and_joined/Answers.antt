use Rattle.live_passes.proofs.RowSplits.{joined_so, kept_so, split_so}
use Rattle.live_passes.proofs.feeders.rows_are_split_and_joined.Goals as goal

pub returns : goal.returns
returns c =
    let law = c.passes_of_a_lock_are_split_and_joined.ensures in
    record {
      kept = kept_so;
      split = split_so law.split;
      joined = joined_so law.joined;
    }
