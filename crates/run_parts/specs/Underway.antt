-- Bridges for proofs: what is kept of histories while a run goes on, and what may be added. They
-- are read with the laws that cite them; who reads what a run is doesn't need them.
use Rattle.std.specs.Prelude.{◌≡◌, ◌≤◌, ◌<◌, ◌⊎◌, ℕ, false, List, [], ◌∷◌, map, flat_map, None}
use Rattle.histories.specs.declared.entry.Entry.{Entry}
use Rattle.histories.specs.Numbers.{queue_count}
use Rattle.histories.specs.History.{history}
use Rattle.script_lines.specs.declared.line.Down.{Down}
use Rattle.run_parts.specs.Ascending.{AscendFrom}
use Rattle.run_parts.specs.Closing.{is_closing_of, is_of_port}
use Rattle.run_parts.specs.Feeder.{Item, entries_of, lines_of, times_of, AreItemsFrom}
use Rattle.run_parts.specs.Order.{Kind, Answers, Marked, kinds_of, early_rank, late_ranks}

-- ---- numbers

-- the last of these, or this where there is none
abbrev pub last_of : ℕ → List ℕ → ℕ
last_of low [] = low
last_of low (x ∷ xs) = last_of x xs

-- numbers up to a stage, and then some that are none or just that of the stage
abbrev pub IsNow : ℕ → List ℕ → Type 0
IsNow k ys = (ys ≡ []) ⊎ (ys ≡ k ∷ [])

pub record Rise (k : ℕ) (xs : List ℕ) : Type 0 where
  pub ascend : AscendFrom 0 xs
  pub last : last_of 0 xs ≤ k

-- ---- the feeder

-- a queue's history was fed up to this time, and these lines took effect
pub record Fed (time : ℕ) (fallen : List Down) (h : List Entry) : Type 0 where
  pub items : List Item
  pub entries : flat_map entries_of items ≡ h
  pub lines : flat_map lines_of items ≡ fallen
  pub each : AreItemsFrom None items
  pub times : Rise time (flat_map times_of items)

-- so it is of each queue
pub record AllFed (time : ℕ) (fallen : List Down) (es : List Entry) : Type 0 where
  pub each : (queue : ℕ) → queue < queue_count → Fed time fallen (history queue es)

-- ---- order

-- which kinds of each port ask something of each queue
abbrev pub Told : Type 0
Told = ℕ → ℕ → List Kind

-- a queue's history is in order, and what comes next may have these ranks
pub record Ordered (ports : List ℕ) (e l : ℕ) (told : ℕ → List Kind) (h : List Entry)
    : Type 0 where
  pub marks : List Marked
  pub entries : map (λ (m : Marked). m.entry) marks ≡ h
  pub kinds : (port : ℕ) → flat_map (kinds_of port) marks ≡ told port
  pub early : Rise e (map (early_rank ports) marks)
  pub late : Rise l (flat_map (late_ranks ports) marks)

-- so it is of each queue
pub record AllOrdered (ports : List ℕ) (e l : ℕ) (told : Told) (es : List Entry) : Type 0 where
  pub each : (queue : ℕ) → queue < queue_count → Ordered ports e l (told queue) (history queue es)

-- an entry that is no request
abbrev pub unasked : Entry → Marked
unasked e = record { entry = e; kind = Answers }

-- ---- closings

-- entries that aren't the port's
abbrev pub AreOthers : ℕ → List Entry → Type 0
AreOthers p [] = Unit {0}
AreOthers p (e ∷ es) = (is_of_port p e ≡ false) × (is_closing_of p e ≡ false) × AreOthers p es
