use Rattle.std.proofs.Common.{◌≡◌, ◌++◌, drop}
use Rattle.std.specs.Prelude.{filter}
use Rattle.port_audit.specs.Closing.{has_closed}
use Rattle.port_audit.proofs.closing.closed_ports.Given as goal

abbrev pub invariant-loop-port : goal.invariant-loop-port
invariant-loop-port l =
    l.closed.items ++ filter (has_closed l.logs) (drop l.port-index l.script.ports)
    ≡ filter (has_closed l.logs) l.script.ports
