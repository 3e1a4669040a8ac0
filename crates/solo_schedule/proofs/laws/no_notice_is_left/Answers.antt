use Rattle.solo_schedule.proofs.EmptyMailboxes.{open_boxes_empty, all_boxes_empty}
use Rattle.solo_schedule.proofs.EmptyMailboxes.{made_with_nothing}
use Rattle.solo_schedule.proofs.laws.no_notice_is_left.Goals as goal

pub returns-clause-open_ports : goal.returns-clause-open_ports
returns-clause-open_ports c = λ script tables capture is.
    open_boxes_empty (record {
      others = c.closings_are_kept.ensures.others;
      own = c.closings_are_kept.ensures.own;
      closed = c.closings_are_kept.ensures.closed;
    }) c.each_packet_stays_or_leaves.ensures c.what_goes_on_is_in_time.ensures.arrival script tables
    capture (c.each_port_has_its_place.ensures script is.ports_differ)

pub returns-clause-every_port : goal.returns-clause-every_port
returns-clause-every_port c = λ script tables capture h is solo small.
    all_boxes_empty (record {
      others = c.closings_are_kept.ensures.others;
      own = c.closings_are_kept.ensures.own;
      closed = c.closings_are_kept.ensures.closed;
    }) c.each_packet_stays_or_leaves.ensures c.what_goes_on_is_in_time.ensures.arrival script tables
    capture h (c.each_port_has_its_place.ensures script is.ports_differ) solo small

pub returns-clause-made : goal.returns-clause-made
returns-clause-made c = λ script tables capture h is solo small.
    made_with_nothing (record {
      others = c.closings_are_kept.ensures.others;
      own = c.closings_are_kept.ensures.own;
      closed = c.closings_are_kept.ensures.closed;
    }) c.each_packet_stays_or_leaves.ensures c.what_goes_on_is_in_time.ensures.arrival script tables
    capture h (c.each_port_has_its_place.ensures script is.ports_differ) solo small
    (c.ports_do_what_the_script_says.ensures script tables capture h is solo)
