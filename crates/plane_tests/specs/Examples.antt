-- For tests: a plane that goes on, with all its ports open.
use Rattle.std.specs.Prelude.{◌≡◌, ◌≤◌, ℕ, List, []}
use Rattle.std.specs.List.{AllZip}
use Rattle.place_rows.specs.Joining.{AreWhole}
use Rattle.place_rows.specs.Lists.{Every}
use Rattle.plane.specs.declared.opened.Opened.{Opened}
use Rattle.plane.specs.declared.plane.Plane.{Plane}
use Rattle.plane.specs.Opening.{all_rows}
use Rattle.plane.specs.Passes.{FeederView, PortView, IsFeederOf, IsPortOf}
use Rattle.plane.specs.Planes.{board_of, places_of}
use Rattle.plane.specs.Remaining.{times_in}
use Rattle.place_turns.specs.Trails.{parts_of}

-- The passes are of this plane and have together the whole of each lock, and no port is there
-- twice.
pub record AreGoing (plane : Plane) (feeder : FeederView) (ports : List PortView) : Type 0 where
  pub feeds : IsFeederOf plane feeder
  pub each : Every (IsPortOf plane) ports
  pub apart : (port : ℕ) → times_in port ports ≤ 1
  pub whole : AreWhole (places_of plane) (all_rows feeder ports [])

-- the same of an open plane, and who reads the board reads this one's
pub record IsGoing (o : Opened) : Type 0 where
  pub on : AreGoing o.plane o.feeder o.ports
  pub looks : o.gauge.board ≡ board_of o.plane

-- a port's pass stays that port's, with the same parts of the locks
pub record Keeps (old new : PortView) : Type 0 where
  pub port : new.port ≡ old.port
  pub parts : parts_of new.trail.known ≡ parts_of old.trail.known

-- the passes of ports stay theirs, and this plane's
pub record Stay (plane : Plane) (olds news : List PortView) : Type 0 where
  pub each : Every (IsPortOf plane) news
  pub keep : AllZip Keeps olds news
