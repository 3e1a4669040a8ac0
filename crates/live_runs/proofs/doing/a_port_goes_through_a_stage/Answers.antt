use Rattle.live_runs.proofs.StageDids.{port_shut, went_nowhere, went_on, went_shut}
use Rattle.live_runs.proofs.doing.a_port_goes_through_a_stage.Goals as goal

pub returns : goal.returns
returns c =
    let logs = c.logs_go_on.ensures in
    let laws = c.closings_are_kept.ensures in
    record {
      rests = λ workers script stage port was shares. went_nowhere workers script 0 port stage was
          shares;
      goes = λ workers script places stage port was start t pass answers a. went_on workers script
          places port stage was start t pass answers a;
      closes = went_shut logs laws;
      closed = port_shut logs laws;
    }
