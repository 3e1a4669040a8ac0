-- What was sent to a port that has closed, kept from a meeting behind its closing on.
use Rattle.std.specs.Prelude.{◌≡◌, ℕ, true, false, List}
use Rattle.inspector_script.specs.Scripts.{ScriptValue}
use Rattle.run_parts.specs.Log.{Note}
use Rattle.live_runs.specs.ClosedPlanes.{sent_by_all}
use Rattle.live_runs.specs.Meetings.{IsMeeting}
use Rattle.live_runs.specs.Passes.{Pass, is_pass, seen_at}
use Rattle.live_runs.specs.Seen.{Grows, IsAny, IsNone}
use Rattle.live_runs.specs.Stages.{Stage}
use Rattle.live_runs.specs.Stands.{Stand}

-- All passes have gone on since a meeting at which the port had closed, its own with nothing of its
-- own, and this was sent to the port up to then.
pub record WasSent (workers : ℕ) (script : ScriptValue) (places port sum : ℕ) (passes : ℕ → Pass)
    : Type 0 where
  pub stage : Stage
  pub old : ℕ → Pass
  pub notes : ℕ → List Note
  pub stands : ℕ → Stand
  pub meeting : IsMeeting workers script places stage old notes stands
  pub shut : (stands port).is_open ≡ false
  pub was_sent : sent_by_all script.ports places old port ≡ sum
  pub grows : (k p : ℕ) → is_pass script.ports p ≡ true →
      Grows IsAny (seen_at old k p) (seen_at passes k p)
  pub nothing : (k : ℕ) → Grows IsNone (seen_at old k port) (seen_at passes k port)
