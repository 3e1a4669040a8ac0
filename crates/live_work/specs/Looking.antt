-- How a port goes on answering.
use Rattle.std.specs.Prelude.{ℕ, length}
use Rattle.inspector_script.specs.Scripts.{ScriptValue}
use Rattle.plane.specs.Passes.{PortView}
use Rattle.live_runs.specs.Doing.{GoesOn}
use Rattle.live_passes.specs.Views.{port_pass}

-- how many notices a port received
abbrev pub heard_by : PortView → ℕ
heard_by p = length p.receiver.received

-- A port went on answering its notices, with so many workers behind it: it owed nothing, and owes
-- nothing now.
pub record LooksOn (workers : ℕ) (script : ScriptValue) (places : ℕ) (old new : PortView)
    : Type 0 where
  pub on : GoesOn workers script places old.port (port_pass old) (port_pass new)
