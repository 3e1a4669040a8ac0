use Rattle.std.proofs.Common.{drop}
use Rattle.port_audit.specs.Kinds.{kinds_by}
use Rattle.port_audit.proofs.RowsOfOnePort.{IsGrowing}
use Rattle.port_audit.proofs.kinds.deal_kinds.Given as goal

abbrev pub invariant-loop-request : goal.invariant-loop-request
invariant-loop-request l =
    IsGrowing l.port kinds_by l.requests (drop l.request-index l.requests) l.fn.rows l.rows
