-- What a plane is made of.
use Rattle.std.specs.Prelude.{ℕ, List}
use Rattle.atomic_table.specs.Seated.{TableId}
use Rattle.glance.specs.Views.{BoardView}
use Rattle.packet_moves.specs.declared.setting.Setting.{Setting}
use Rattle.locked_place.specs.declared.outlets.Outlets.{Outlets}
use Rattle.place_turns.specs.Places as shared
use Rattle.plane.specs.declared.plane.Plane.{Plane}

-- the tables, the key of the flow hash, and how many notices a mailbox holds
abbrev pub setting_of : Plane → Setting
setting_of plane = shared.setting_of plane.shared

-- the ports, in the order in which they were given
abbrev pub order_of : Plane → List ℕ
order_of plane = plane.order.items

-- the ports' mailboxes, and the board of the places' totals
abbrev pub outlets_of : Plane → Outlets
outlets_of plane = shared.outlets_of plane.shared

abbrev pub board_of : Plane → BoardView
board_of plane = (outlets_of plane).board

-- how many places there are
abbrev pub places_of : Plane → ℕ
places_of plane = shared.places_of plane.shared

-- the locks of the places, in the places' order
abbrev pub locks_of : Plane → List TableId
locks_of plane = shared.locks_of plane.shared
