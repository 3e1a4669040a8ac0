use Rattle.std.proofs.Common.{◌≡◌}
use Rattle.std.specs.Prelude.{◌&&◌}
use Rattle.std.specs.List.{list_all}
use Rattle.port_audit.specs.Pleading.{pleas_by_did, is_good}
use Rattle.port_audit.proofs.RowsOfOnePort.{IsGrowing}
use Rattle.port_audit.proofs.requests.deal.Given as goal

abbrev pub invariant-loop-did : goal.invariant-loop-did
invariant-loop-did l =
    IsGrowing l.port (pleas_by_did l.port) l.dids l.did-iterator l.fn.rows l.rows
    × ((l.good && list_all (is_good l.port) l.did-iterator)
    ≡ list_all (is_good l.port) l.dids)
