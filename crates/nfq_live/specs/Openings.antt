-- How far a run has opened its ports.
use Rattle.std.specs.Prelude.{◌≡◌, ℕ, List, [], length}
use Rattle.inspector_script.specs.Scripts.{ScriptValue}
use Rattle.run_parts.specs.Feeder.{downs_after, falling_time}
use Rattle.run_parts.specs.Log.{Note}
use Rattle.live_runs.specs.Meetings.{IsOpenTo}
use Rattle.live_runs.specs.Passes.{feeder_number, seen_at}
use Rattle.live_runs.specs.Stands.{Stand}
use Rattle.nfq_live.specs.declared.crew.Crew.{Crew}
use Rattle.nfq_live.specs.Crews.{passes_of}
use Rattle.live_work.specs.Feeding.{AreFeeding, FedOn, shares_in}
use Rattle.live_passes.specs.Numbered.{numbers_of}

-- The ports before this place of the script have opened, with so many workers behind each, and all
-- passes have met.
pub record IsOpenedBy (workers : ℕ) (script : ScriptValue) (places place : ℕ) (c : Crew)
    : Type 0 where
  pub notes : ℕ → List Note
  pub stands : ℕ → Stand
  pub open_to : IsOpenTo workers script places place (passes_of c) notes stands

-- They have opened so with any number of workers, and nothing was fed. All ports are open, in the
-- script's order.
pub record HaveOpened (script : ScriptValue) (places place : ℕ) (c : Crew) : Type 0 where
  pub opened : (workers : ℕ) → IsOpenedBy workers script places place c
  pub early : AreFeeding places 0 [] (λ k. seen_at (passes_of c) k feeder_number)
  pub none_fed : c.feeding.pass.fed ≡ []
  pub in_order : numbers_of c.ports.items ≡ script.ports
  pub none_closed : c.closed.items ≡ []

-- All have opened, and the devices went down that do so before the first frame: what only the
-- feeder's pass has seen so far.
pub record AreReady (script : ScriptValue) (places : ℕ) (c : Crew) : Type 0 where
  pub met : Crew
  pub opened : HaveOpened script places (length script.ports) met
  pub ports : c.ports.items ≡ met.ports.items
  pub closed : c.closed.items ≡ met.closed.items
  pub fed : c.feeding.pass.fed ≡ met.feeding.pass.fed
  pub fell : FedOn places 0 (falling_time 0) (downs_after script 0) (shares_in met.feeding.pass)
      (shares_in c.feeding.pass)
