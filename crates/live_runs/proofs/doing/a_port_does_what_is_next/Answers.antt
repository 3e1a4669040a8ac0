use Rattle.live_runs.proofs.PortCalls.{begins_doing, doing_begins, doing_gets, doing_speaks}
use Rattle.live_runs.proofs.PortCalls.{doing_turns}
use Rattle.live_runs.proofs.doing.a_port_does_what_is_next.Goals as goal

pub returns : goal.returns
returns c =
    let logs = c.logs_go_on.ensures in
    let laws = c.closings_are_kept.ensures in
    let conserve = c.each_packet_stays_or_leaves.ensures in
    record {
      begins = begins_doing logs laws conserve;
      takes_up = doing_begins logs laws conserve;
      sends = doing_speaks logs laws conserve;
      receives = doing_gets logs laws conserve;
      turns = doing_turns logs laws conserve;
    }
