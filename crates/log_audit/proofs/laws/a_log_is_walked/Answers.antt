use Rattle.std.proofs.Common.{sym}
use Rattle.log_audit.proofs.Evenness.{Laws}
use Rattle.log_audit.proofs.WholeLog.{goes_whole}
use Rattle.log_audit.proofs.laws.a_log_is_walked.Goals as goal

pub returns-clause-walked : goal.returns-clause-walked
returns-clause-walked c =
    let laws : Laws = record {
      reading = c.written_message_is_in_front.ensures.reading;
      size = c.written_message_is_in_front.ensures.size;
      short = c.datagrams_are_short.ensures.bytes;
    } in
    λ known script place port dids notes port_fits asks log are.
    let so = goes_whole known script place port laws dids notes port_fits asks log are in
    record { goes = so.goes; done = so.done }

pub returns-clause-kinds : goal.returns-clause-kinds
returns-clause-kinds c =
    let laws : Laws = record {
      reading = c.written_message_is_in_front.ensures.reading;
      size = c.written_message_is_in_front.ensures.size;
      short = c.datagrams_are_short.ensures.bytes;
    } in
    λ known script place port dids notes port_fits asks log are queue.
    let so = goes_whole known script place port laws dids notes port_fits asks log are in
    sym (so.at queue)
