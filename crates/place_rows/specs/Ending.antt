-- Places that ended: the list of each, and the entries of all.
use Rattle.std.specs.Prelude.{◌≡◌, ℕ, List, length, slice_get, Some, sum_by, map}
use Rattle.std.specs.Prelude.{flat_map}
use Rattle.std.specs.List.{range_with_len}
use mathlib.Core.List.{IsPrefix}
use Rattle.packet_entry.specs.declared.packet.Card.{Card}
use Rattle.histories.specs.declared.entry.Entry.{Entry}
use Rattle.histories.specs.declared.histories.Lost.{Lost}
use Rattle.histories.specs.History.{AreLegal}
use Rattle.place_history.specs.PlaceState.{AreHere}
use Rattle.place_rows.specs.Lists.{Every}
use Rattle.place_rows.specs.Rows.{Known}
use Rattle.place_rows.specs.Shares.{IsBalanced}
use Rattle.packet_moves.specs.declared.setting.Setting.{Setting}
use Rattle.place_rows.specs.Joining.{own_at, Begins}

-- the list of place k among so many, all of whose entries are one row's own
pub record IsListAt (places : ℕ) (known : List Known) (k : ℕ) (list : List Entry) : Type 0 where
  pub all : Known
  pub at : slice_get known k ≡ Some all
  pub begins : IsPrefix all.seen list
  pub own : all.own ≡ range_with_len 0 (length list)
  pub here : AreHere places k list
  pub legal : AreLegal list

-- The list of place k among so many: what each row has seen there begins it, and the places of the
-- rows' own entries there are just the places of this list, each once, whatever weighs them. Its
-- entries are of the place's queues.
pub record IsListOf (places : ℕ) (rows : List (List Known)) (k : ℕ) (list : List Entry) : Type 0
  where
    pub begins : Every (Begins k list) rows
    pub once : (f : ℕ → ℕ) → sum_by (own_at f k) rows ≡ sum_by f (range_with_len 0 (length list))
    pub here : AreHere places k list

-- ---- all who had passes

-- one who has a row: what it knows, the packets that it fed, and those that its calls lost
pub record Holder : Type 0 where
  pub known : List Known
  pub fed : List Card
  pub lost : List Lost

abbrev pub known_by : Holder → List Known
known_by h = h.known

abbrev pub rows_of : List Holder → List (List Known)
rows_of holders = map known_by holders

-- all packets that they fed, and all that they lost
abbrev pub all_fed : List Holder → List Card
all_fed holders = flat_map (λ (h : Holder). h.fed) holders

abbrev pub all_lost : List Holder → List Lost
all_lost holders = flat_map (λ (h : Holder). h.lost) holders

abbrev pub AreBalanced : Setting → List Holder → Type 0
AreBalanced s holders = Every (λ (h : Holder). IsBalanced s h.fed h.known h.lost) holders
