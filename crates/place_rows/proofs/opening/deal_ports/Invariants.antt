use Rattle.std.proofs.Common.{take}
use Rattle.place_rows.specs.Opening.{IsDealt}
use Rattle.place_rows.proofs.opening.deal_ports.Given as goal

abbrev pub invariant-loop-port : goal.invariant-loop-port
invariant-loop-port l = IsDealt l.places l.mail (take l.port-index l.ports) l.dealt
