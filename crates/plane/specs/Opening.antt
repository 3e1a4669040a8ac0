-- A plane that was opened.
use Rattle.std.specs.Prelude.{◌≡◌, ℕ, List, [], ◌∷◌, ◌++◌, map, IfSome}
use Rattle.std.specs.BTreeMap.{get}
use Rattle.std.specs.Ordering.{nat_cmp}
use Rattle.mailbox.specs.Views.{MailboxView, opening_receiver}
use Rattle.glance.specs.Views.{PassView, opening_pass}
use Rattle.packet_moves.specs.declared.setting.Setting.{Setting}
use Rattle.place_rows.specs.Joining.{AreWhole}
use Rattle.place_rows.specs.Lists.{Every}
use Rattle.place_rows.specs.Rows.{Known}
use Rattle.plane.specs.declared.plane.Plane.{Plane}
use Rattle.plane.specs.Passes.{FeederView, PortView, IsFeederOf, IsPortOf}
use Rattle.plane.specs.Planes.{setting_of, order_of, outlets_of, board_of, places_of}

-- what each pass knows: who feeds, the open ports, and those that closed
abbrev pub known_in : PortView → List Known
known_in p = p.trail.known

abbrev pub all_rows : FeederView → List PortView → List PortView → List (List Known)
all_rows feeder ports closed =
    feeder.trail.known ∷ (map known_in ports ++ map known_in closed)

-- nothing was seen of a place, and nothing appended there
pub record IsUnused (v : Known) : Type 0 where
  pub seen : v.seen ≡ []
  pub own : v.own ≡ []

-- a port that did nothing yet
pub record IsNew (p : PortView) : Type 0 where
  pub known : Every IsUnused p.trail.known
  pub lost : p.trail.lost ≡ []
  pub dids : p.dids ≡ []
  pub receiver : p.receiver ≡ opening_receiver p.receiver.mailbox

-- A plane of so many places with these ports was opened: nothing has happened, its passes have
-- together the whole of each place's lock, and each mailbox holds as many notices as was asked for.
pub record IsOpened (places : ℕ) (order : List ℕ) (s : Setting) (plane : Plane)
    (feeder : FeederView) (ports : List PortView) (gauge : PassView) : Type 0 where
  pub setting : setting_of plane ≡ s
  pub order_is : order_of plane ≡ order
  pub as_many : places_of plane ≡ places
  pub feeds : IsFeederOf plane feeder
  pub none_fed : feeder.fed ≡ []
  pub none_lost : feeder.trail.lost ≡ []
  pub none_known : Every IsUnused feeder.trail.known
  pub ports_are : map (λ (p : PortView). p.port) ports ≡ order
  pub each : Every (IsPortOf plane) ports
  pub new : Every IsNew ports
  pub capacity : (port : ℕ) → IfSome (get nat_cmp (outlets_of plane).mailboxes port)
      (λ (m : MailboxView). m.capacity ≡ s.mail)
  pub whole : AreWhole places (all_rows feeder ports [])
  pub looks : gauge ≡ opening_pass (board_of plane)
