-- Several feeders: passes that are split off one, and joined again.
use Rattle.std.specs.Prelude.{◌≡◌, ◌+◌, ◌≤◌, ℕ, List, [], ◌∷◌, ◌++◌, length, map, min}
use Rattle.packet_entry.specs.ListWithRoom.{ListWithRoom}
use Rattle.packet_entry.specs.declared.packet.Card.{Card}
use Rattle.turn_lock.specs.Parts.{Empty}
use Rattle.turn_lock.specs.Views.{kept_view, split_view}
use Rattle.place_rows.specs.Joining.{RowJoined, together_at}
use Rattle.place_rows.specs.Rows.{Known}
use Rattle.place_rows.specs.Shares.{sent_in}
use Rattle.plane.specs.Meetings.{with_known}
use Rattle.plane.specs.Numbers.{most_fed}
use Rattle.plane.specs.Passes.{FeederView}

-- how many packets a pass says that it fed
abbrev pub count_of : List Card → ℕ
count_of fed = min (length fed) most_fed

-- What a pass keeps: how many packets were fed by those that were joined into it, and no more of
-- its own after them than one pass feeds.
pub record IsFeeder (before : List Card) (count : ℕ) (own : ListWithRoom Card) : Type 0 where
  pub counted : count ≡ count_of before
  pub few : length own.items ≤ most_fed

-- two rows have together, with whatever others, the parts of the locks that one row has
abbrev pub HaveThePartsOf : List Known → List Known → List Known → Type 0
HaveThePartsOf one two whole =
    (k : ℕ) (rows : List (List Known)) →
    together_at k Empty (one ∷ two ∷ rows) ≡ together_at k Empty (whole ∷ rows)

-- A pass was split off another. It has seen the same, and has fed, sent, lost and appended nothing.
-- Of the other, at most how it shares its parts of the locks has changed.
pub record IsSplitOff (old new made : FeederView) : Type 0 where
  pub kept : new ≡ record old {
    trail = with_known old.trail (map kept_view old.trail.known);
  }
  pub made_so : made ≡ record {
    locks = old.locks;
    trail = record { known = map split_view old.trail.known; lost = [] };
    fed = [];
  }
  pub none_sent : (port : ℕ) → sent_in port made.trail.known ≡ 0
  pub parts : HaveThePartsOf new.trail.known made.trail.known old.trail.known

-- A pass was joined into another. At each place this has then seen the longer of their two lists,
-- of which the other list is a beginning, and has the own entries and the parts of both. It fed,
-- sent and lost what both did.
pub record IsJoined (into from after : FeederView) : Type 0 where
  pub rows : RowJoined 0 into.trail.known from.trail.known after.trail.known
  pub locks : after.locks ≡ into.locks
  pub fed : after.fed ≡ into.fed ++ from.fed
  pub lost : after.trail.lost ≡ into.trail.lost ++ from.trail.lost
  pub sent : (port : ℕ) → sent_in port after.trail.known
      ≡ sent_in port into.trail.known + sent_in port from.trail.known
  pub parts : HaveThePartsOf into.trail.known from.trail.known after.trail.known
