use Rattle.std.proofs.Common.{◌≡◌, ◌≤◌, ◌↔◌, drop, map, length}
use Rattle.histories.specs.declared.log.PortLog.{PortLog}
use Rattle.port_audit.proofs.ports.are_ports.Given as goal

abbrev pub invariant-loop-log : goal.invariant-loop-log
invariant-loop-log l =
    ((map (λ (log : PortLog). log.port) l.log-iterator ≡ drop l.place l.ports)
    ↔ (map (λ (log : PortLog). log.port) l.histories.logs ≡ l.script.ports))
    × (l.place ≤ length l.ports)
