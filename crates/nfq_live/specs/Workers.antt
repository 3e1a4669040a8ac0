-- What inspectors do as workers, and the feeder beside them.
use Rattle.std.specs.Prelude.{◌≡◌, ◌≤◌, ℕ, false, List, [], map}
use Rattle.std.specs.List.{AllZip}
use Rattle.pcap_io.specs.declared.capture.Capture.{Capture}
use Rattle.inspector_script.specs.Scripts.{ScriptValue}
use Rattle.plane.specs.declared.plane.Plane.{Plane}
use Rattle.plane.specs.Passes.{PortView, IsPortOf}
use Rattle.plane.specs.Planes.{places_of}
use Rattle.nfq_live.specs.declared.crew.Crew.{Crew}
use Rattle.live_work.specs.declared.mind.Mind.{Mind}
use Rattle.nfq_live.specs.declared.workers.Inspector.{Inspector}
use Rattle.nfq_live.specs.declared.workers.Room.{Room}
use Rattle.nfq_live.specs.Feeders.{HaveAllFed}
use Rattle.live_work.specs.Looking.{LooksOn}
use Rattle.live_work.specs.Minds.{IsMind}
use Rattle.live_passes.specs.Numbered.{StaysPort}

-- a worker at its port
pub record IsSeated (script : ScriptValue) (plane : Plane) (i : Inspector) : Type 0 where
  pub pass : IsPortOf plane i.pass
  pub mind : IsMind script i.pass i.mind

-- It answered notices, with so many workers behind its port, or failed for want of memory.
pub record IsInspected (workers : ℕ) (script : ScriptValue) (plane : Plane) (old new : Inspector)
    : Type 0 where
  pub stays : StaysPort plane old.pass new.pass
  pub mind : new.failed ≡ false → IsMind script new.pass new.mind
  pub on : new.failed ≡ false → LooksOn workers script (places_of plane) old.pass new.pass

abbrev pub passes_at : List Inspector → List PortView
passes_at seats = map (λ (i : Inspector). i.pass) seats

abbrev pub minds_at : List Inspector → List Mind
minds_at seats = map (λ (i : Inspector). i.mind) seats

-- room for so many workers at ports, for their passes and minds once they have worked, and for so
-- many feeders
pub record HasRoom (count feeders : ℕ) (r : Room) : Type 0 where
  pub no_helpers : r.helpers.items ≡ []
  pub helpers : feeders ≤ r.helpers.cap
  pub no_seats : r.seats.items ≡ []
  pub no_ports : r.ports.items ≡ []
  pub no_minds : r.minds.items ≡ []
  pub seats : count ≤ r.seats.cap
  pub ports : count ≤ r.ports.cap
  pub minds : count ≤ r.minds.cap

-- the same port's pass, which went on answering
pub record WentOn (workers : ℕ) (script : ScriptValue) (places : ℕ) (old new : PortView)
    : Type 0 where
  pub port : new.port ≡ old.port
  pub looked : LooksOn workers script places old new

-- All open ports went on answering their notices, each with so many workers behind it, beside the
-- feeders, which fed all frames of a capture and whose passes were joined into the first one's.
-- Nobody closed.
pub record HaveWorked (workers feeders : ℕ) (script : ScriptValue) (capture : Capture)
    (places : ℕ) (old new : Crew) : Type 0 where
  pub went_on : AllZip (WentOn workers script places) old.ports.items new.ports.items
  pub fed : HaveAllFed feeders script capture places old.feeding.pass new.feeding.pass
  pub closed : new.closed.items ≡ old.closed.items
