-- For proofs alone: whether `down` lines can be put into what is left of a queue's history.
use Rattle.std.specs.Prelude.{◌≡◌, ◌≤◌, ◌<◌, ◌^◌, ◌⊎◌, ℕ, zero, suc, List, [], ◌∷◌, Option, None}
use Rattle.std.specs.Prelude.{Bool, true}
use Rattle.queue_core.specs.State.{Bound}
use Rattle.queue_core.specs.Step.{step}
use Rattle.queue_core.specs.declared.event.Event.TheVariants.{DeviceDown}
use Rattle.histories.specs.declared.entry.Entry.{Entry}
use Rattle.script_lines.specs.declared.line.Down.{Down}
use Rattle.run_parts.specs.Ascending.{AscendFrom}
use Rattle.run_parts.specs.Feeder.{IsNoDown, times_of_event, falling_time}

-- ---- one way

-- the last of these times, or the one before them
abbrev pub last_of : ℕ → List ℕ → ℕ
last_of t [] = t
last_of t (x ∷ xs) = last_of x xs

-- From a queue's state and a time on, these lines can be put into this history: before the next
-- entry, which is no line's; with that entry; or where the queue is absent.
abbrev pub Fits : Option Bound → ℕ → List Down → List Entry → Type 0
Fits q t [] [] = Unit {0}
Fits q t (d ∷ ds) [] =
    (q ≡ None) × (t ≤ falling_time d.after) × Fits q (falling_time d.after) ds []
Fits q t [] (e ∷ es) =
    IsNoDown e.event × AscendFrom t (times_of_event e.event)
    × Fits (step q e.event).state (last_of t (times_of_event e.event)) [] es
Fits q t (d ∷ ds) (e ∷ es) =
    (IsNoDown e.event × AscendFrom t (times_of_event e.event)
    × Fits (step q e.event).state (last_of t (times_of_event e.event)) (d ∷ ds) es)
    ⊎ (((e.event ≡ DeviceDown d.device) × (t ≤ falling_time d.after)
    × Fits (step q e.event).state (falling_time d.after) ds es)
    ⊎ ((q ≡ None) × (t ≤ falling_time d.after)
    × Fits q (falling_time d.after) ds (e ∷ es)))

-- ---- a row of ways

-- whether so many of the lines that are left can have been put in so far
abbrev pub Row : Type 0
Row = ℕ → Bool

-- without the first
abbrev pub behind : Row → Row
behind row = λ k. row (suc k)

-- From one of the row's numbers on, the lines that are left behind it can be put into what is left
-- of the history. The time is that of no line put in; behind a line it is the line's.
abbrev pub FitsBy : Option Bound → ℕ → List Entry → List Down → Row → Type 0
FitsBy q t h [] row = (row zero ≡ true) × Fits q t [] h
FitsBy q t h (d ∷ ds) row =
    ((row zero ≡ true) × Fits q t (d ∷ ds) h) ⊎ FitsBy q (falling_time d.after) h ds (behind row)

-- where the queue is absent, all numbers are there or none: lines can pass
abbrev pub IsOpen : Option Bound → Row → Type 0
IsOpen q row = q ≡ None → (j k : ℕ) → row j ≡ true → row k ≡ true

-- the times of these lines ascend from this one on
abbrev pub Rises : ℕ → List Down → Type 0
Rises t [] = Unit {0}
Rises t (d ∷ ds) = (t ≤ falling_time d.after) × Rises (falling_time d.after) ds

-- the time behind so many lines
abbrev pub time_at : ℕ → List Down → ℕ → ℕ
time_at t ds zero = t
time_at t [] (suc k) = t
time_at t (d ∷ ds) (suc k) = time_at (falling_time d.after) ds k

-- the numbers of these lines' frames are of 32 bits
abbrev pub AreShort : List Down → Type 0
AreShort [] = Unit {0}
AreShort (d ∷ ds) = (d.after < 2 ^ 32) × AreShort ds
