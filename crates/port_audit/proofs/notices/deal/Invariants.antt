use Rattle.port_audit.specs.Noticing.{visits_by}
use Rattle.port_audit.proofs.RowsOfOnePort.{IsGrowing}
use Rattle.port_audit.proofs.notices.deal.Given as goal

abbrev pub invariant-loop-did : goal.invariant-loop-did
invariant-loop-did l = IsGrowing l.port visits_by l.dids l.did-iterator l.fn.rows l.rows
