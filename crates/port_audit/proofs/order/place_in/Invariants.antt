use Rattle.std.proofs.Common.{◌≡◌, ◌+◌, drop}
use Rattle.run_parts.specs.Ports.{place_in}
use Rattle.port_audit.proofs.order.place_in.Given as goal

abbrev pub invariant-loop-other : goal.invariant-loop-other
invariant-loop-other l = record {
  so_far : l.place ≡ l.other-index;
  rest : l.place + place_in l.port (drop l.other-index l.ports) ≡ place_in l.port l.ports;
}
