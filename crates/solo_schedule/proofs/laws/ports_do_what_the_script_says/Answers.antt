use Rattle.solo_schedule.proofs.MadeByScript.{made_by_script}
use Rattle.solo_schedule.proofs.laws.ports_do_what_the_script_says.Goals as goal

pub returns : goal.returns
returns c = λ script tables capture h is solo.
    made_by_script (record {
      others = c.closings_are_kept.ensures.others;
      own = c.closings_are_kept.ensures.own;
      closed = c.closings_are_kept.ensures.closed;
    }) (record {
      steps = record {
        leaves = c.what_goes_on_is_in_time.ensures.arrival;
        conserve = c.each_packet_stays_or_leaves.ensures;
        log = record {
          next = c.logs_go_on.ensures.next 1;
          stands = c.logs_go_on.ensures.stands 1;
          logged = c.logs_go_on.ensures.logged 1;
          closed = c.logs_go_on.ensures.closed 1;
          kinds = c.logs_go_on.ensures.kinds 1;
        };
      };
      fed = record {
        none = c.fed_histories_go_on.ensures.none;
        later = c.fed_histories_go_on.ensures.later;
        first = c.fed_histories_go_on.ensures.first;
        entry = c.fed_histories_go_on.ensures.entry;
        closing = c.fed_histories_go_on.ensures.closing;
        line = c.fed_histories_go_on.ensures.line;
        fed = c.fed_histories_go_on.ensures.fed;
        alone = c.one_feeder_feeds_all.ensures.fed;
      };
      ordered = record {
        later = c.ordered_histories_go_on.ensures.later;
        entry = c.ordered_histories_go_on.ensures.entry;
        other = c.ordered_histories_go_on.ensures.unasked;
        closing = c.ordered_histories_go_on.ensures.closing;
        devices = c.ordered_histories_go_on.ensures.devices;
        ordered = c.ordered_histories_go_on.ensures.ordered;
      };
    }) script tables capture h
    (c.each_port_has_its_place.ensures script is.ports_differ) solo
