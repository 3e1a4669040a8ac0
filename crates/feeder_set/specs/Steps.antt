-- A step of a feeder: a frame of its share is fed, and the devices go down that do so after it.
use Rattle.std.specs.Prelude.{◌≡◌, ◌<◌, ◌-◌, ◌+◌, ◌++◌, ◌∷◌, [], ℕ, List, Bool, true, false, length}
use Rattle.std.specs.Prelude.{Option, Some, None, slice_get}
use Rattle.packet_entry.specs.declared.packet.Card.{Card}
use Rattle.pcap_io.specs.declared.capture.Capture.{Capture}
use Rattle.pcap_io.specs.declared.capture.Frame.{Frame}
use Rattle.script_lines.specs.declared.line.Down.{Down}
use Rattle.inspector_script.specs.Scripts.{ScriptValue}
use Rattle.run_parts.specs.Entering.{card_of}
use Rattle.run_parts.specs.Feeder.{downs_after}
use Rattle.packet_moves.specs.declared.fed.Fed.{Fed}
use Rattle.locked_place.specs.Turns.{GoesDownIn}
use Rattle.place_rows.specs.Rows.{Known, TurnedUpTo}
use Rattle.place_turns.specs.Moving.{IsFed}
use Rattle.plane.specs.declared.plane.Plane.{Plane}
use Rattle.plane.specs.Passes.{FeederView, IsFeederOf}
use Rattle.plane.specs.Planes.{places_of, setting_of}
use Rattle.feeder_set.specs.Shares.{FeederState}

-- ---- a frame is fed

-- A packet is fed by a pass, whatever becomes of it. The pass stays the plane's, and balanced.
pub record IsCardFed (plane : Plane) (card : Card) (old new : FeederView) : Type 0 where
  pub became : Fed
  pub moved : IsFed (places_of plane) (setting_of plane) old.trail card new.trail became
  pub fed : new.fed ≡ old.fed ++ card ∷ []
  pub of : IsFeederOf plane new

-- that of a frame is, where the frame has one
abbrev pub Feeds : Plane → Option Card → FeederView → FeederView → Type 0
Feeds plane None old new = new ≡ old
Feeds plane (Some card) old new = IsCardFed plane card old new

-- ---- devices go down

-- a device goes down at a place in a turn, whatever it destroys there
abbrev pub FallsAt : ℕ → Known → Known → Type 0
FallsAt device v w = (count : ℕ) × GoesDownIn device v w count

-- and so at each place of a plane
pub record Falls (plane : Plane) (device : ℕ) (old new : FeederView) : Type 0 where
  pub turned : TurnedUpTo (places_of plane) old.trail.known new.trail.known (FallsAt device)
  pub fed : new.fed ≡ old.fed
  pub lost : new.trail.lost ≡ old.trail.lost
  pub of : IsFeederOf plane new

-- the devices of these lines, one after the other
abbrev pub AllFall : Plane → List Down → FeederView → FeederView → Type 0
AllFall plane [] old new = new ≡ old
AllFall plane (d ∷ ds) old new =
    (between : FeederView) × (Falls plane d.device old between × AllFall plane ds between new)

-- ---- a step

-- The next frame of the share was fed, and the devices went down that do so after it. The feeder
-- goes on to the frame so many further on as there are feeders.
pub record PassesNext (plane : Plane) (script : ScriptValue) (capture : Capture)
    (was now : FeederState) (old new : FeederView) : Type 0 where
  pub frame : Frame
  pub there : slice_get capture.frames (was.next - 1) ≡ Some frame
  pub between : FeederView
  pub fed : Feeds plane (card_of capture was.next frame) old between
  pub fell : AllFall plane (downs_after script was.next) between new
  pub on : now ≡ record was { next = was.next + was.share.feeders }

-- so it is where the share has a frame left, and else nothing happens
abbrev pub Steps : Plane → ScriptValue → Capture → FeederState → FeederState → FeederView →
    FeederView → Bool → Type 0
Steps plane script capture was now old new true =
    PassesNext plane script capture was now old new
Steps plane script capture was now old new false =
    (length capture.frames < was.next) × ((now ≡ was) × (new ≡ old))
