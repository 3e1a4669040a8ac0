use Rattle.std.proofs.Common.{refl}
use Rattle.netlink_codec.specs.Messages.{first_message}
use Rattle.live_runs.proofs.Cuts.{looked_all, sent_all, sent_on, unsent, used_within}
use Rattle.live_runs.proofs.doing.messages_are_sent_one_by_one.Goals as goal

pub returns : goal.returns
returns c =
    let logs = c.logs_go_on.ensures in
    let laws = c.closings_are_kept.ensures in
    let conserve = c.each_packet_stays_or_leaves.ensures in
    record {
      begin = λ workers script places stage port was start x call words ds pass is_words a. record {
        fresh = _;
        some = λ so. so;
        short = c.datagrams_are_short.ensures.words port call words is_words;
        is = a;
      };
      next = λ workers script places stage port was start x ds count look rest old new used some may
          more one s a. sent_on logs laws conserve workers script places stage port was start some x
          may ds count look rest old new used more one s a;
      none = λ workers script places stage port was start x ds count look rest old new used some may
          more none s a. sent_all logs laws conserve workers script places stage port was start some
          x may ds count look rest old new used more none s a;
      enough = λ workers script places stage port was start x ds count look rest pass some may none
          a. looked_all logs laws conserve workers script places stage port was start some x may ds
          count look rest pass none a;
      used = λ places port rest old new used s. used_within rest places port old new used
          (first_message rest) refl s;
      unsent = λ places port rest old new used none s. unsent rest places port old new used
          (first_message rest) refl none s;
    }
