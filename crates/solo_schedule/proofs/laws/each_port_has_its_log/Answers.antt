use Rattle.std.proofs.Common.{◌∙◌, ap, List, map}
use Rattle.histories.specs.declared.log.PortLog.{PortLog}
use Rattle.solo_schedule.specs.Schedule.{run}
use Rattle.solo_schedule.proofs.Logs.{ports_of_logs}
use Rattle.solo_schedule.proofs.laws.each_port_has_its_log.Goals as goal

pub returns : goal.returns
returns c = record {
  ports = λ script tables capture h is.
      ap (λ (logs : List PortLog). map (λ (l : PortLog). l.port) logs) is.logs
      ∙ ports_of_logs (run script tables capture) script.ports;
}
