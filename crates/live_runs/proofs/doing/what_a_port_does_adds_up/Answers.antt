use Rattle.live_runs.proofs.Looks.{next_asked, looked_through, looks_again, looks_once}
use Rattle.live_runs.proofs.doing.what_a_port_does_adds_up.Goals as goal

pub returns : goal.returns
returns c =
    let logs = c.logs_go_on.ensures in
    let laws = c.closings_are_kept.ensures in
    let conserve = c.each_packet_stays_or_leaves.ensures in
    record {
      no_ask = λ workers script places port asks pass. record {
        on = λ stage was start x may is. is;
      };
      next_ask = next_asked;
      no_look = λ workers script places port pass. record {
        on = λ stage was start ends answers is. is;
      };
      look = looks_once logs laws conserve;
      next_look = looks_again;
      looks = looked_through logs laws conserve;
    }
