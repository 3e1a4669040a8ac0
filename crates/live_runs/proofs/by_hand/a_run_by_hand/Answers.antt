use Rattle.std.proofs.Common.{arith}
use Rattle.live_runs.specs.ByHand.{fed_by_one, histories, notes, passes, script, stands}
use Rattle.live_runs.specs.Stages.{Ending}
use Rattle.live_runs.proofs.ExampleRun.{asked_so, cut_so, done_so, fed_so, one_is_fed}
use Rattle.live_runs.proofs.by_hand.a_run_by_hand.Goals as goal

pub returns : goal.returns
returns c =
    let around = c.a_run_around_what_is_fed.ensures in
    let closed = around.closed fed_by_one one_is_fed in
    let meeting = around.meeting fed_by_one one_is_fed in
    let received = around.received fed_by_one one_is_fed in
    record {
      cut = cut_so;
      asked = asked_so;
      closed = closed;
      meeting = meeting;
      done = done_so;
      fed = fed_so;
      received = received;
      made = c.a_run_with_threads_is_made_by_its_script.ensures.made 1 script 1 1 3 (Ending 0)
          passes histories notes stands (omega arith) closed meeting done_so fed_so received;
    }
