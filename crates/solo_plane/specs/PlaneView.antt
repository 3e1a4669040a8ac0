-- What a plane shows: what it was made with, and its world.
use Rattle.std.specs.Prelude.{◌≡◌, ℕ, List}
use Rattle.solo_plane.specs.declared.plane.SoloPlane.{SoloPlane}
use Rattle.packet_moves.specs.declared.setting.Setting.{Setting}
use Rattle.packet_moves.specs.World.{World}
use Rattle.solo_plane.specs.PortView.{world_of}

-- the tables, the key of the flow hash, and how many notices a mailbox holds
abbrev pub setting_of : SoloPlane → Setting
setting_of p = p.setting

-- the ports, in the order in which they were given
abbrev pub order_of : SoloPlane → List ℕ
order_of p = p.order.items

abbrev pub world_in : SoloPlane → World
world_in p = world_of p.held

-- a plane stays with what it was made with
pub record IsWith (old new : SoloPlane) : Type 0 where
  pub setting : setting_of new ≡ setting_of old
  pub order : order_of new ≡ order_of old
