-- The entries that a row's own turns appended, and what it is for a row to be balanced.
use Rattle.std.specs.Prelude.{◌≡◌, ℕ, List, [], ◌∷◌, ◌++◌, length, slice_get, Some, option_to_list}
use Rattle.std.specs.Prelude.{flat_map, sum_by}
use Rattle.packet_entry.specs.declared.packet.Card.{Card}
use Rattle.turn_lock.specs.Views.{HasSeenOwn}
use Rattle.histories.specs.declared.histories.Lost.{Lost}
use Rattle.histories.specs.History.{AreLegal}
use Rattle.histories.specs.Moves.{Move, moves}
use Rattle.histories.specs.Journeys.{Arrival, IsSoundBut}
use Rattle.packet_moves.specs.declared.setting.Setting.{Setting}
use Rattle.locked_place.specs.Points.{Point, points}
use Rattle.locked_place.specs.Notices.{letters_at}
use Rattle.place_rows.specs.Rows.{Known}

-- the items at these places of a list
abbrev pub at_places : {X : Type 0} → List X → List ℕ → List X
at_places xs [] = []
at_places xs (k ∷ ks) = option_to_list (slice_get xs k) ++ at_places xs ks

-- ---- moves

-- the moves of a pass: those of its own entries
abbrev pub own_moves : Known → List Move
own_moves v = at_places (moves v.seen) v.own

-- and of a row, place by place
abbrev pub all_moves : List Known → List Move
all_moves known = flat_map own_moves known

-- ---- notices

-- how many notices an entry put into a port's mailbox
abbrev pub notices_at : ℕ → Point → ℕ
notices_at port p = length (letters_at port p)

-- how many a pass's own entries put there, and a row's, and those of several rows
abbrev pub sent_at : ℕ → Known → ℕ
sent_at port v = sum_by (notices_at port) (at_places (points v.seen) v.own)

abbrev pub sent_in : ℕ → List Known → ℕ
sent_in port known = sum_by (sent_at port) known

abbrev pub sent_in_all : ℕ → List (List Known) → ℕ
sent_in_all port rows = sum_by (sent_in port) rows

-- ---- balance

-- A row is balanced, but for arrivals that are still owed: what it has seen is legal, its own
-- entries are among what it has seen, and their moves are sound for the packets that it fed and
-- those that it lost.
pub record IsBalancedBut (s : Setting) (owed : List Arrival) (entered : List Card)
    (known : List Known) (lost : List Lost) : Type 0 where
  pub legal : (k : ℕ) (v : Known) → slice_get known k ≡ Some v → AreLegal v.seen
  pub placed : (k : ℕ) (v : Known) → slice_get known k ≡ Some v → HasSeenOwn v
  pub sound : IsSoundBut s.tables s.key owed entered (all_moves known) lost

-- nothing is owed any more
abbrev pub IsBalanced : Setting → List Card → List Known → List Lost → Type 0
IsBalanced s entered known lost = IsBalancedBut s [] entered known lost
