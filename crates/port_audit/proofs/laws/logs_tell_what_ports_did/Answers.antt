use Rattle.port_audit.proofs.DistinctVisits.{only_ones}
use Rattle.port_audit.proofs.OwedAsks.{all_told, all_by_words}
use Rattle.port_audit.proofs.laws.logs_tell_what_ports_did.Goals as goal

pub returns : goal.returns
returns c = record {
  told = λ script h notes logs. all_told script h notes logs;
  words = λ script h notes limits logs. all_by_words script h notes logs
      c.datagrams_are_short.ensures.words limits;
  notices = λ script h notes once logs. only_ones script h notes once logs;
}
