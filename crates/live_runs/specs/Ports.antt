-- What is known of a port's pass between its calls.
use Rattle.std.specs.Prelude.{◌≡◌, ◌<◌, ℕ, not, List}
use Rattle.inspector_script.specs.Scripts.{ScriptValue}
use Rattle.run_parts.specs.Log.{Note, start, AreNextFrom, standing}
use Rattle.run_parts.specs.Notices.{heard}
use Rattle.run_parts.specs.Ports.{place_in}
use Rattle.run_parts.specs.Requests.{AreErrnos}
use Rattle.live_runs.specs.Stands.{Stand, full}
use Rattle.live_runs.specs.Owners.{AreEven, IsShutting}
use Rattle.live_runs.specs.Passes.{Pass}

-- The pass of a port of the script that did this, told in full, and stands so: each note was next;
-- the notices that it received are those noted; each message has its errno; and its requests and
-- its closing stand in the histories that it has seen, unless others meddle with them.
pub record IsPort (workers : ℕ) (script : ScriptValue) (places port : ℕ) (notes : List Note)
    (t : Stand) (pass : Pass) : Type 0 where
  pub next : AreNextFrom workers script (place_in port script.ports) port
      (start script (place_in port script.ports)) notes
  pub stands : standing workers script (place_in port script.ports) port notes ≡ full pass.dids t
  pub heard_so : heard notes ≡ pass.letters
  pub errnos : AreErrnos notes
  pub even : AreEven places port pass.shares notes
  pub shutting : (k : ℕ) → k < places → IsShutting port (not t.is_open) (pass.shares k)
