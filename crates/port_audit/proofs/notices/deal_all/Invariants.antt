use Rattle.std.proofs.Common.{take}
use Rattle.port_audit.specs.Dealing.{AreDealt}
use Rattle.port_audit.specs.Noticing.{visits_told}
use Rattle.port_audit.proofs.notices.deal_all.Given as goal

abbrev pub invariant-loop-port : goal.invariant-loop-port
invariant-loop-port l = AreDealt (take l.port-index l.ports) (visits_told l.logs) l.rows
