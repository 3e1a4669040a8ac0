-- Worlds whose histories are legal and sound.
use Rattle.std.specs.Prelude.{List}
use Rattle.histories.specs.History.{AreLegal}
use Rattle.histories.specs.Moves.{moves}
use Rattle.histories.specs.Journeys.{Arrival, IsSoundBut}
use Rattle.packet_moves.specs.declared.setting.Setting.{Setting}
use Rattle.packet_moves.specs.World.{World}

-- The histories are legal; and they are sound for the packets that were fed and those that were
-- lost, but for arrivals that are still owed.
pub record IsSound (s : Setting) (owed : List Arrival) (w : World) : Type 0 where
  pub legal : AreLegal w.entries
  pub sound : IsSoundBut s.tables s.key owed w.fed (moves w.entries) w.lost
