use Rattle.live_runs.proofs.Looks.{answers_first, hears_more}
use Rattle.live_runs.proofs.doing.a_pool_answers_in_groups.Goals as goal

pub returns : goal.returns
returns c =
    let logs = c.logs_go_on.ensures in
    let laws = c.closings_are_kept.ensures in
    let conserve = c.each_packet_stays_or_leaves.ensures in
    record {
      none = λ workers script places port pass. record {
        on = λ stage was start ends answers is. is;
      };
      receives = hears_more logs laws conserve;
      answers = answers_first logs laws conserve;
      done = λ workers script places port old new w. record { on = w.on };
    }
