use Rattle.solo_schedule.proofs.Rounds.{emptyings_end}
use Rattle.solo_schedule.proofs.laws.each_emptying_ends_by_itself.Goals as goal

pub returns : goal.returns
returns c = λ script tables capture is.
    emptyings_end (record {
      others = c.closings_are_kept.ensures.others;
      own = c.closings_are_kept.ensures.own;
      closed = c.closings_are_kept.ensures.closed;
    }) c.each_packet_stays_or_leaves.ensures c.what_goes_on_is_in_time.ensures.arrival script tables
    capture (c.each_port_has_its_place.ensures script is.ports_differ)
