-- All passes of a run, by number: the feeder's has its own, and a port's the number of its port.
use Rattle.std.specs.Prelude.{◌≡◌, ℕ, List, [], ◌∷◌, ◌++◌, map, nat_eq, true, false, ◌==◌}
use Rattle.std.specs.Prelude.{if◌then◌else◌, IfSome}
use Rattle.std.specs.BTreeMap.{get}
use Rattle.std.specs.Ordering.{nat_cmp}
use Rattle.std.specs.List.{list_any}
use Rattle.mailbox.specs.Views.{MailboxView}
use Rattle.place_rows.specs.Joining.{AreWhole}
use Rattle.place_rows.specs.Lists.{Every}
use Rattle.place_rows.specs.Rows.{Known}
use Rattle.plane.specs.declared.plane.Plane.{Plane}
use Rattle.plane.specs.Opening.{all_rows, known_in}
use Rattle.plane.specs.Passes.{FeederView, PortView, IsFeederOf, IsPortOf}
use Rattle.plane.specs.Planes.{order_of, outlets_of, places_of, setting_of}
use Rattle.plane.specs.Remaining.{times_in}
use Rattle.place_turns.specs.Trails.{parts_of}
use Rattle.live_runs.specs.Passes.{Pass, feeder_number}
use Rattle.live_passes.specs.Views.{port_pass, feeder_pass}

-- ---- by number

-- the pass of no port
abbrev pub no_pass : Pass
no_pass = record { dids = []; letters = []; shares = λ k. [] }

-- the first of these with its port's number
abbrev pub pass_among : List PortView → ℕ → Pass
pass_among [] port = no_pass
pass_among (p ∷ ps) port = if p.port == port then port_pass p else pass_among ps port

-- the feeder's, and those of ports, open or closed
abbrev pub passes_in : FeederView → List PortView → ℕ → Pass
passes_in feeder ports number =
    if number == feeder_number then feeder_pass feeder else pass_among ports number

-- what each of them knows, the feeder's first
abbrev pub rows_in : FeederView → List PortView → List (List Known)
rows_in feeder ports = feeder.trail.known ∷ map known_in ports

abbrev pub numbers_of : List PortView → List ℕ
numbers_of ports = map (λ (p : PortView). p.port) ports

-- ---- what every call leaves as it is, also where memory runs out

-- A port's pass stays its port's and its plane's, with its parts of the locks.
pub record StaysPort (plane : Plane) (old new : PortView) : Type 0 where
  pub of : IsPortOf plane new
  pub port : new.port ≡ old.port
  pub parts : parts_of new.trail.known ≡ parts_of old.trail.known

-- and the feeder's its plane's
pub record StaysFeeder (plane : Plane) (old new : FeederView) : Type 0 where
  pub of : IsFeederOf plane new
  pub parts : parts_of new.trail.known ≡ parts_of old.trail.known

-- No port of the plane has the feeder's number, and each mailbox holds as many notices as the plane
-- was made with.
pub record IsSetUp (plane : Plane) : Type 0 where
  pub no_feeder : list_any (nat_eq feeder_number) (order_of plane) ≡ false
  pub capacity : (port : ℕ) → IfSome (get nat_cmp (outlets_of plane).mailboxes port)
      (λ (m : MailboxView). m.capacity ≡ (setting_of plane).mail)

-- They are all passes of the plane: the feeder's, and those of the open ports and of the closed
-- ones, each port of the plane once and nobody else, which have together the whole of each lock. So
-- the plane can be closed.
pub record AreAll (plane : Plane) (feeder : FeederView) (ports closed : List PortView)
    : Type 0 where
  pub set_up : IsSetUp plane
  pub feeds : IsFeederOf plane feeder
  pub speak : Every (IsPortOf plane) ports
  pub spoke : Every (IsPortOf plane) closed
  pub each : (port : ℕ) → list_any (nat_eq port) (order_of plane) ≡ true →
      times_in port (ports ++ closed) ≡ 1
  pub nobody : (port : ℕ) → list_any (nat_eq port) (order_of plane) ≡ false →
      times_in port (ports ++ closed) ≡ 0
  pub whole : AreWhole (places_of plane) (all_rows feeder ports closed)
