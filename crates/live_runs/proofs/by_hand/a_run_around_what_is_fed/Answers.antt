use Rattle.live_runs.proofs.ExampleRun.{closed_so, met_so, received_so}
use Rattle.live_runs.proofs.by_hand.a_run_around_what_is_fed.Goals as goal

pub returns : goal.returns
returns c = record {
  closed = closed_so;
  meeting = met_so;
  received = received_so;
}
