use Rattle.std.proofs.Common.{refl}
use Rattle.live_runs.specs.Owners.{IsFeeders}
use Rattle.live_runs.proofs.Marks.{grows_as, same_grows}
use Rattle.live_runs.proofs.StageEnd.{stage_ends}
use Rattle.live_runs.proofs.StageEntries.{fed_is_plain}
use Rattle.live_runs.proofs.meeting.a_stage_ends_where_all_meet.Goals as goal

pub returns : goal.returns
returns c =
    let logs = c.logs_go_on.ensures in
    let laws = c.closings_are_kept.ensures in
    record {
      meeting = stage_ends logs laws;
      feeds = λ script old new grows. record {
        grows = λ k. grows_as IsFeeders _ (λ e is. (is, fed_is_plain script.ports e is)) (old k)
            (new k) (grows k);
      };
      rests = λ script stage shares. record {
        grows = λ k. same_grows _ (shares k) (shares k) refl;
      };
    }
