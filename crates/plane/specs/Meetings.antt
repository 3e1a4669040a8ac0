-- Passes of a plane that meet: each has then seen what one of them had.
use Rattle.std.specs.Prelude.{◌≡◌, ℕ, List}
use Rattle.std.specs.List.{AllZip}
use Rattle.place_rows.specs.Meeting.{HaveMet}
use Rattle.place_rows.specs.Rows.{Known}
use Rattle.plane.specs.Opening.{all_rows}
use Rattle.plane.specs.Passes.{FeederView, PortView}
use Rattle.place_turns.specs.Trails.{Trail}

-- of a trail, at most what is known has changed
abbrev pub with_known : Trail → List Known → Trail
with_known t known = record { known = known; lost = t.lost }

-- and of a port's pass
abbrev pub KeepsAll : PortView → PortView → Type 0
KeepsAll old new = new ≡ record old { trail = with_known old.trail new.trail.known }

-- and of the feeder's
abbrev pub FeederKeepsAll : FeederView → FeederView → Type 0
FeederKeepsAll old new = new ≡ record old { trail = with_known old.trail new.trail.known }

-- At each place each pass has then seen the longest list that one of them had seen there. Nothing
-- else of them changes but how they share their parts of the locks.
pub record Meets (places : ℕ) (feeder feeder_then : FeederView)
    (ports ports_then closed closed_then : List PortView) : Type 0 where
  pub rows : HaveMet places (all_rows feeder ports closed)
      (all_rows feeder_then ports_then closed_then)
  pub feeder_keeps : FeederKeepsAll feeder feeder_then
  pub each_port : AllZip KeepsAll ports ports_then
  pub each_closed : AllZip KeepsAll closed closed_then
