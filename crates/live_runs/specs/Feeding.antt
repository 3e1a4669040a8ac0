-- What the feeder's pass does: a line takes effect place by place.
use Rattle.std.specs.Prelude.{◌≡◌, ◌<◌, ◌≤◌, ◌+◌, ◌*◌, ℕ, List, [], ◌∷◌, ◌++◌}
use Rattle.script_lines.specs.declared.line.Down.{Down}
use Rattle.live_runs.specs.Seen.{Shares, Grows}
use Rattle.live_runs.specs.Calls.{FallsAt}
use Rattle.live_runs.specs.Owners.{IsFeeders, IsFeeding}

-- at the places below this one a line has taken effect, and at the others not
pub record TakesDownTo (place places : ℕ) (d : Down) (old new : Shares) : Type 0 where
  pub done : (time : ℕ) (fallen : List Down) → time ≤ 2 * d.after + 1 → (k : ℕ) → k < place →
      k < places → IsFeeding time fallen (old k) →
      IsFeeding (2 * d.after + 1) (fallen ++ d ∷ []) (new k)
  pub turned : (k : ℕ) → k < place → FallsAt d.device (old k) (new k)
  pub rest : (k : ℕ) → place ≤ k → new k ≡ old k
  pub grows : (k : ℕ) → Grows IsFeeders (old k) (new k)

-- at all places it has
abbrev pub TakesDown : ℕ → Down → Shares → Shares → Type 0
TakesDown places d old new = TakesDownTo places places d old new
