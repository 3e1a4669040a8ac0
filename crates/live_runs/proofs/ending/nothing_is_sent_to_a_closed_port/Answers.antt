use Rattle.live_runs.proofs.ClosedPortCounts.{sent_at_last, sent_at_meeting, sent_on, sent_through}
use Rattle.live_runs.proofs.ending.nothing_is_sent_to_a_closed_port.Goals as goal

pub returns : goal.returns
returns c = record {
  closed = sent_at_meeting;
  since = sent_on;
  stage = sent_through;
  at_last = sent_at_last c.closings_are_kept.ensures;
}
