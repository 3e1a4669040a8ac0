-- Logs that are told in full.
use Rattle.std.specs.Prelude.{◌≡◌, ℕ, List, [], map, Option, Some, None, true}
use Rattle.histories.specs.declared.log.Did.{Did}
use Rattle.histories.specs.declared.log.PortLog.{PortLog}
use Rattle.histories.specs.declared.histories.Histories.{Histories}
use Rattle.inspector_script.specs.Scripts.{ScriptValue}
use Rattle.run_parts.specs.Log.{Note, logged, unanswered}
use Rattle.run_parts.specs.Ports.{is_port, log_of}

-- what a log has; nothing, where there is none
abbrev pub dids_in : Option (List Did) → List Did
dids_in None = []
dids_in (Some dids) = dids

-- what the first log of a port says that it did
abbrev pub dids_of : ℕ → List PortLog → List Did
dids_of port logs = dids_in (log_of port logs)

-- The first log of each port of the script is what is told of it in full, but for the answers.
abbrev pub AreTold : ScriptValue → Histories → (ℕ → List Note) → Type 0
AreTold script h notes =
    (port : ℕ) → is_port script port ≡ true →
    map unanswered (dids_of port h.logs) ≡ map unanswered (logged port (notes port))
