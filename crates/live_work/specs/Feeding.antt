-- What a feeder does: the frames of its share are fed, and devices go down between them.
use Rattle.std.specs.Prelude.{◌≡◌, ◌≤◌, ◌<◌, ◌++◌, ℕ, false, List, length, IfSome}
use Rattle.pcap_io.specs.declared.capture.Capture.{Capture}
use Rattle.script_lines.specs.declared.line.Down.{Down}
use Rattle.inspector_script.specs.Scripts.{ScriptValue}
use Rattle.glance.specs.Views.{PassView}
use Rattle.plane.specs.declared.plane.Plane.{Plane}
use Rattle.plane.specs.Passes.{FeederView}
use Rattle.plane.specs.Planes.{board_of, places_of}
use Rattle.live_runs.specs.Owners.{IsFeeders, IsFeeding}
use Rattle.live_runs.specs.Seen.{Grows, Shares}
use Rattle.live_passes.specs.Views.{shares_of}
use Rattle.feeder_set.specs.declared.share.Share.{Share}
use Rattle.live_work.specs.declared.feeding.Feeding.{Feeding}
use Rattle.live_work.specs.Sharing.{SharePasses, share_cards}
use Rattle.live_passes.specs.Numbered.{StaysFeeder}

-- each of so many places was fed up to this time, with these lines
abbrev pub AreFeeding : ℕ → ℕ → List Down → Shares → Type 0
AreFeeding places time fallen shares = (k : ℕ) → k < places → IsFeeding time fallen (shares k)

-- Wherever the places were fed up to one time, they are now fed up to another, with these lines
-- more. What the feeder appended is its own.
pub record FedOn (places early late : ℕ) (lines : List Down) (old new : Shares) : Type 0 where
  pub on : (time : ℕ) (fallen : List Down) → time ≤ early → AreFeeding places time fallen old →
      AreFeeding places late (fallen ++ lines) new
  pub grows : (k : ℕ) → Grows IsFeeders (old k) (new k)

abbrev pub shares_in : FeederView → Shares
shares_in p = shares_of p.trail.known

-- who feeds: a pass that reads the board, where there is one, reads the plane's
pub record IsFeedingOf (plane : Plane) (f : Feeding) : Type 0 where
  pub looks : IfSome f.gauge (λ (g : PassView). g.board ≡ board_of plane)

-- The feeder fed its share of the frames of a capture, or failed for want of memory.
pub record HasFed (script : ScriptValue) (capture : Capture) (plane : Plane) (s : Share)
    (old new : Feeding) : Type 0 where
  pub stays : StaysFeeder plane old.pass new.pass
  pub looks : IsFeedingOf plane new
  pub on : new.failed ≡ false → SharePasses script (places_of plane) s (length capture.frames)
      (shares_in old.pass) (shares_in new.pass)
  pub fed : new.failed ≡ false → new.pass.fed ≡ share_cards s capture
