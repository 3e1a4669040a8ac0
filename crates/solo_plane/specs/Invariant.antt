-- What each plane keeps.
use Rattle.std.specs.Prelude.{ℕ, List}
use Rattle.packet_moves.specs.declared.setting.Setting.{Setting}
use Rattle.solo_plane.specs.declared.held.Held.{Held}
use Rattle.solo_plane.specs.PortView.{IsReady, HasSound}
use Rattle.solo_plane.specs.PortPlaces.{AreApart}

pub record IsPlane (setting : Setting) (order : List ℕ) (h : Held) : Type 0 where
  pub ready : IsReady h.place
  pub sound : HasSound setting h
  -- no port is there twice
  pub apart : AreApart order
