-- A plane of worked examples.
use Rattle.std.specs.Prelude.{◌≡◌, ◌≤◌, ℕ, length, IsSomeAnd, false}
use Rattle.solo_plane.specs.declared.plane.SoloPlane.{SoloPlane}
use Rattle.solo_plane.specs.PlaneView.{world_in}

-- port 7 is open, and no more than so many packets were fed
pub record IsGoing (fed : ℕ) (p : SoloPlane) : Type 0 where
  pub port : IsSomeAnd ((world_in p).ports 7) (λ port. port.is_closed ≡ false)
  pub few : length (world_in p).fed ≤ fed
