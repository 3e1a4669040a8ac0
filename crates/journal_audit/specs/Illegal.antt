-- The first place where a history isn't legal.
use Rattle.std.specs.Prelude.{◌≤◌, ◌<◌, ℕ, List, length, take, Option, Some, None, MatchOption}
use Rattle.std.specs.Prelude.{nat_le, if◌then◌else◌}
use Rattle.histories.specs.declared.entry.Entry.{Entry}
use Rattle.histories.specs.History.{history, IsLegal, AreLegal}
use Rattle.journal_audit.specs.declared.first_illegal.Place1.{Place1}

-- the beginning of a history with so many entries is the shortest that isn't legal
pub record IsFirstIllegal (h : List Entry) (at : ℕ) : Type 0 where
  pub within : at ≤ length h
  pub illegal : IsLegal (take at h) → ⊥
  pub shortest : (n : ℕ) → n < at → IsLegal (take n h)

-- the place is that of the least queue whose history isn't legal
pub record IsFirstPlace (es : List Entry) (p : Place1) : Type 0 where
  pub first : IsFirstIllegal (history p.queue es) p.at
  pub before : (queue : ℕ) → queue < p.queue → IsLegal (history queue es)

-- what is answered of these entries: nothing where the history of each queue is legal, and else the
-- first place where one isn't
abbrev pub IsFirstOf : List Entry → Option Place1 → Type 0
IsFirstOf es place = MatchOption place (AreLegal es) (IsFirstPlace es)

-- the place of the lesser queue, of the first place so far and one that was found at this queue
abbrev pub sooner : Option Place1 → ℕ → Option ℕ → Option Place1
sooner first queue None = first
sooner None queue (Some at) = Some (record { queue = queue; at = at })
sooner (Some p) queue (Some at) =
    if nat_le p.queue queue then Some p else Some (record { queue = queue; at = at })
