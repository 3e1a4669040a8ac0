-- What the fields of a board, a Writer and a pass stand for, and what they keep.
use Rattle.std.specs.Prelude.{◌≡◌, ℕ, ◌<◌, ◌≤◌, true}
use Rattle.atomic_table.specs.Seated.{TableId}
use Rattle.atomic_table.specs.declared.shared.Seat.{Seat}
use Rattle.glance.specs.declared.view.View.{View}
use Rattle.glance.specs.Numbers.{least_places, most_places}
use Rattle.glance.specs.Views.{BoardView, WriterView, PassView}

abbrev pub board_of : TableId → BoardView
board_of table = record { table = table; places = table.words }

-- the table has one word a place, and its key is their number
pub record IsBoard (table : TableId) (key : ℕ) : Type 0 where
  pub keyed : key ≡ table.words
  pub least : least_places ≤ table.words
  pub most : table.words ≤ most_places

abbrev pub writer_of : Seat ℕ View → WriterView
writer_of s =
    record { board = board_of s.table_id; place = s.me.0.place; published = s.me.0.published }

-- the seat is a Writer's, and the number beside it its place, which the board has
pub record IsWriter (s : Seat ℕ View) (place : ℕ) : Type 0 where
  pub placed : s.me.0.place ≡ place
  pub on_board : place < s.table_id.words
  pub writes : s.me.0.writes ≡ true

abbrev pub pass_of : Seat ℕ View → PassView
pass_of s = record { board = board_of s.table_id; readings = s.me.0.readings }
