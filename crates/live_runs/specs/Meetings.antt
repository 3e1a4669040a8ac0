-- A run where all its passes have met.
use Rattle.std.specs.Prelude.{◌≡◌, ◌≤◌, ◌<◌, ℕ, List, [], true, false}
use Rattle.queue_core.specs.declared.event.Event.{Event}
use Rattle.queue_core.specs.declared.event.Event.TheVariants.{Arrive, Ask, PortClosed, DeviceDown}
use Rattle.histories.specs.declared.entry.Entry.{Entry}
use Rattle.inspector_script.specs.Scripts.{ScriptValue}
use Rattle.run_parts.specs.Log.{Note}
use Rattle.run_parts.specs.Ports.{is_port, place_in}
use Rattle.live_runs.specs.Seen.{entries, OursAre, EachIs}
use Rattle.live_runs.specs.ClosedPlanes.{AreOwned}
use Rattle.live_runs.specs.Owners.{IsOf, IsFeeders}
use Rattle.live_runs.specs.Passes.{Pass, feeder_number, is_pass, seen_at}
use Rattle.live_runs.specs.Ports.{IsPort}
use Rattle.live_runs.specs.Stages.{Stage, Opening, early_of, late_of, InOrder}
use Rattle.live_runs.specs.Stands.{Stand, unopened, opened}

-- What is known of all passes, wherever the ports stand.
pub record ArePorts (workers : ℕ) (script : ScriptValue) (places : ℕ) (passes : ℕ → Pass)
    (notes : ℕ → List Note) (stands : ℕ → Stand) : Type 0 where
  pub ports : (port : ℕ) → is_port script port ≡ true →
      IsPort workers script places port (notes port) (stands port) (passes port)
  pub others : (port : ℕ) → is_port script port ≡ false → notes port ≡ []
  pub ours : (port : ℕ) → is_port script port ≡ true → (k : ℕ) →
      OursAre (IsOf port) (seen_at passes k port)
  pub feeders : (k : ℕ) → OursAre IsFeeders (seen_at passes k feeder_number)

-- All passes have seen the same list at each place. As far as each entry of these lists is some
-- pass's own, which a closed plane says in the end, they are in order up to the stage.
pub record IsMeeting (workers : ℕ) (script : ScriptValue) (places : ℕ) (stage : Stage)
    (passes : ℕ → Pass) (notes : ℕ → List Note) (stands : ℕ → Stand) : Type 0 where
  pub whole : ℕ → List Entry
  pub are : ArePorts workers script places passes notes stands
  pub met : (k p : ℕ) → k < places → is_pass script.ports p ≡ true →
      entries (seen_at passes k p) ≡ whole k
  pub order : ((k : ℕ) → k < places →
      AreOwned (is_pass script.ports) (seen_at passes k) (whole k)) →
      InOrder workers script places (early_of script.ports stage) (late_of stage) whole notes

-- ---- openings

abbrev pub IsAskEvent : Event → Type 0
IsAskEvent (Arrive card bypass room) = ⊥
IsAskEvent (Ask port call request) = Unit {0}
IsAskEvent (PortClosed port) = ⊥
IsAskEvent (DeviceDown device) = ⊥

abbrev pub IsAsk : Entry → Type 0
IsAsk e = IsAskEvent e.event

-- a pass of a new plane
pub record IsNew (pass : Pass) : Type 0 where
  pub dids : pass.dids ≡ []
  pub letters : pass.letters ≡ []
  pub shares : (k : ℕ) → pass.shares k ≡ []

-- The ports before this place have opened and the others not, all passes have met, and as far as
-- each entry is some pass's own, there are requests alone.
pub record IsOpenTo (workers : ℕ) (script : ScriptValue) (places place : ℕ) (passes : ℕ → Pass)
    (notes : ℕ → List Note) (stands : ℕ → Stand) : Type 0 where
  pub meeting : IsMeeting workers script places (Opening place) passes notes stands
  pub before : (port : ℕ) → is_port script port ≡ true → place_in port script.ports < place →
      stands port ≡ opened script port
  pub behind : (port : ℕ) → is_port script port ≡ true → place ≤ place_in port script.ports →
      (notes port ≡ []) × (stands port ≡ unopened script port)
  pub asks : ((k : ℕ) → k < places →
      AreOwned (is_pass script.ports) (seen_at passes k) (meeting.whole k)) →
      (k : ℕ) → k < places → EachIs IsAsk (meeting.whole k)
