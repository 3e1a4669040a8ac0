-- The logs of ports.
use Rattle.std.specs.Prelude.{ℕ, List, [], map, Option, Some, None}
use Rattle.histories.specs.declared.log.Did.{Did}
use Rattle.histories.specs.declared.log.PortLog.{PortLog}
use Rattle.packet_moves.specs.World.{World, Port}

-- what a port did, where it is one
abbrev pub dids_of : Option Port → List Did
dids_of None = []
dids_of (Some p) = p.dids

-- the log of a port
abbrev pub log_of : (ℕ → Option Port) → ℕ → PortLog
log_of ports port = record { port = port; dids = dids_of (ports port) }

-- the logs of ports, in their order
abbrev pub logs_in : List ℕ → World → List PortLog
logs_in order w = map (log_of w.ports) order
