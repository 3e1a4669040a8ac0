-- What is kept of a port beside its pass: how its inspector answers, and how many notices it
-- received.
use Rattle.std.specs.Prelude.{◌≡◌, true, length, min}
use Rattle.inspector_script.specs.Scripts.{ScriptValue}
use Rattle.run_parts.specs.Log.{received_count}
use Rattle.run_parts.specs.Ports.{is_port, place_in}
use Rattle.plane.specs.Passes.{PortView}
use Rattle.live_work.specs.declared.mind.Mind.{Mind}
use Rattle.live_work.specs.Numbers.{most_counted}

-- The inspector is that of the pass's port, and has counted the notices that the port received.
pub record IsMind (script : ScriptValue) (p : PortView) (m : Mind) : Type 0 where
  pub port : is_port script p.port ≡ true
  pub place : m.machine.place ≡ place_in p.port script.ports
  pub counted : m.machine.received ≡ received_count p.dids
  pub heard : m.received ≡ min (length p.receiver.received) most_counted

-- a message leaves the count as it is
pub record HearsNothing (old new : PortView) : Type 0 where
  pub receiver : new.receiver ≡ old.receiver
  pub counted : received_count new.dids ≡ received_count old.dids
