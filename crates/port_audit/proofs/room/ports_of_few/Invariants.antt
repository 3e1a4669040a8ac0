use Rattle.std.proofs.Common.{◌≡◌, ◌++◌, drop}
use Rattle.std.specs.Prelude.{filter}
use Rattle.port_audit.specs.Hearing.{hears_few}
use Rattle.port_audit.proofs.room.ports_of_few.Given as goal

abbrev pub invariant-loop-port : goal.invariant-loop-port
invariant-loop-port l =
    l.few.items
    ++ filter (hears_few l.script.mail l.logs) (drop l.port-index l.script.ports)
    ≡ filter (hears_few l.script.mail l.logs) l.script.ports
