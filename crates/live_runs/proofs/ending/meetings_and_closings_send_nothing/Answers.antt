use Rattle.live_runs.proofs.NoticeSums.{all_same, meets_none, shuts_none}
use Rattle.live_runs.proofs.ending.meetings_and_closings_send_nothing.Goals as goal

pub returns : goal.returns
returns c = record {
  meets = meets_none;
  closes = shuts_none;
  all = all_same;
}
