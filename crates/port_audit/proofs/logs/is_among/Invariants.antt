use Rattle.std.proofs.Common.{◌≡◌, nat_eq, drop}
use Rattle.std.specs.List.{list_any}
use Rattle.port_audit.proofs.logs.is_among.Given as goal

abbrev pub invariant-loop-other : goal.invariant-loop-other
invariant-loop-other l =
    list_any (nat_eq l.port) (drop l.other-index l.ports) ≡ list_any (nat_eq l.port) l.ports
