use Rattle.live_runs.proofs.PortOpenings.{all_open, begins_open, each_open, none_open, open_next}
use Rattle.live_runs.proofs.meeting.ports_open_one_after_the_other.Goals as goal

pub returns : goal.returns
returns c =
    let logs = c.logs_go_on.ensures in
    let laws = c.closings_are_kept.ensures in
    record {
      none = none_open;
      begins = begins_open logs laws c.each_packet_stays_or_leaves.ensures;
      next = open_next logs laws;
      all = all_open;
      each = each_open;
    }
