use Rattle.run_parts.specs.Feeder.{downs_in_effect}
use Rattle.live_runs.specs.Passes.{feeder_number, seen_at}
use Rattle.live_runs.specs.Stages.{early_of, late_of}
use Rattle.live_runs.proofs.FedEntries.{one_by_all}
use Rattle.live_runs.proofs.LastMeeting.{in_order, payloads_fit}
use Rattle.live_runs.proofs.MadeByScript.{made_so}
use Rattle.live_runs.proofs.ending.a_run_with_threads_is_made_by_its_script.Goals as goal

pub returns : goal.returns
returns c =
    let logs = c.logs_go_on.ensures in
    let laws = c.closings_are_kept.ensures in
    let feedings = c.fed_histories_go_on.ensures in
    record {
      made = λ workers script places frames time stage passes h notes stands some closed meeting
          done feeding received. made_so logs laws workers 1 script places frames passes h notes
          stands some closed meeting.are done
          (λ k within. one_by_all feedings c.one_feeder_feeds_all.ensures.fed time
          (downs_in_effect script frames) (seen_at passes k feeder_number) (feeding k within))
          received (early_of script.ports stage) (late_of stage)
          (in_order workers script places stage passes h notes stands some closed meeting);
      made_by_all = λ workers feeders script places frames stage passes h notes stands some closed
          meeting done feeding received. made_so logs laws workers feeders script places frames
          passes h notes stands some closed meeting.are done feeding received
          (early_of script.ports stage) (late_of stage)
          (in_order workers script places stage passes h notes stands some closed meeting);
      short = payloads_fit;
    }
