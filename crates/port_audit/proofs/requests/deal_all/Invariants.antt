use Rattle.std.proofs.Common.{take}
use Rattle.port_audit.specs.Dealing.{AreDealt}
use Rattle.port_audit.specs.Pleading.{pleas_in_log, AllGood}
use Rattle.port_audit.proofs.requests.deal_all.Given as goal

abbrev pub invariant-loop-port : goal.invariant-loop-port
invariant-loop-port l =
    AreDealt (take l.port-index l.ports) (pleas_in_log l.logs) l.rows
    × AllGood (take l.port-index l.ports) l.logs
