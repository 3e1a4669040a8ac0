use Rattle.live_runs.proofs.FedEntries.{met_by_all, one_by_all}
use Rattle.live_runs.proofs.feeding.a_place_stays_fed_by_all.Goals as goal

pub returns : goal.returns
returns c =
    let laws = c.fed_histories_go_on.ensures in
    record {
      meets = met_by_all;
      one = one_by_all laws c.one_feeder_feeds_all.ensures.fed;
    }
