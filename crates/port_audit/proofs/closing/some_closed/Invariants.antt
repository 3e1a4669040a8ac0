use Rattle.std.proofs.Common.{◌≡◌}
use Rattle.std.specs.List.{list_any}
use Rattle.run_parts.specs.Closing.{is_closed}
use Rattle.port_audit.proofs.closing.some_closed.Given as goal

abbrev pub invariant-loop-did : goal.invariant-loop-did
invariant-loop-did l = list_any is_closed l.did-iterator ≡ list_any is_closed l.dids
