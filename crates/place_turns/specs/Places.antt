-- What places of queues are made of.
use Rattle.std.specs.Prelude.{ℕ, List, map}
use Rattle.atomic_table.specs.Seated.{TableId}
use Rattle.packet_moves.specs.declared.setting.Setting.{Setting}
use Rattle.locked_place.specs.declared.outlets.Outlets.{Outlets}
use Rattle.place_rows.specs.Rows.{id_of}
use Rattle.place_turns.specs.declared.places.Places.{Places}

-- the tables, the key of the flow hash, and how many notices a mailbox holds
abbrev pub setting_of : Places → Setting
setting_of places = places.setting

-- the ports' mailboxes, and the board of the places' totals
abbrev pub outlets_of : Places → Outlets
outlets_of places = places.outlets

-- how many places there are
abbrev pub places_of : Places → ℕ
places_of places = places.outlets.board.places

-- the locks of the places, in the places' order
abbrev pub locks_of : Places → List TableId
locks_of places = map id_of places.locks.items
