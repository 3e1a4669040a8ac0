use Rattle.solo_schedule.proofs.TotalOrder.{one_order}
use Rattle.solo_schedule.proofs.laws.one_order_of_all_events.Goals as goal

pub returns : goal.returns
returns c = λ script tables capture h is solo.
    one_order c.turns_of_one_thread_have_one_order.ensures (record {
      leaves = c.what_goes_on_is_in_time.ensures.arrival;
      conserve = c.each_packet_stays_or_leaves.ensures;
      log = record {
        next = c.logs_go_on.ensures.next 1;
        stands = c.logs_go_on.ensures.stands 1;
        logged = c.logs_go_on.ensures.logged 1;
        closed = c.logs_go_on.ensures.closed 1;
        kinds = c.logs_go_on.ensures.kinds 1;
      };
    }) script tables capture h (c.each_port_has_its_place.ensures script is.ports_differ) solo
