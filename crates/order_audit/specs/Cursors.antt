-- For proofs alone: how far the log of each port is gone over.
use Rattle.std.specs.Prelude.{◌≡◌, ◌≤◌, ℕ, ◌+◌, List, [], ◌∷◌, Option, Some, None, false, slice_get}
use Rattle.std.specs.Prelude.{unwrap_or}
use Rattle.std.specs.BTreeMap.{BTreeMap, get, is_at}
use Rattle.std.specs.Ordering.{nat_cmp}
use Rattle.histories.specs.declared.log.Did.{Did}
use Rattle.histories.specs.declared.log.Did.TheVariants.{Received, Sent, Closed}
use Rattle.histories.specs.declared.log.PortLog.{PortLog}
use Rattle.total_order.specs.Steps.{log_of}
use Rattle.order_audit.specs.declared.cursors.Cursor.{Cursor}

abbrev pub CursorMap : Type 0
CursorMap = BTreeMap ℕ Cursor

-- the numbers of messages ascend, from this one on
abbrev pub Ascend : ℕ → List Did → Type 0
Ascend low [] = Unit {0}
Ascend low (Received queue number visit ∷ ds) = Ascend low ds
Ascend low (Sent call ask answer ∷ ds) = (low ≤ call) × Ascend (call + 1) ds
Ascend low (Closed ∷ ds) = Ascend low ds

-- what a log at a place says
abbrev pub dids_in : Option PortLog → List Did
dids_in None = []
dids_in (Some log) = log.dids

abbrev pub dids_at : List PortLog → ℕ → List Did
dids_at logs place = dids_in (slice_get logs place)

-- how far it is gone over, and what is next
abbrev pub at_in : Option Cursor → ℕ
at_in None = 0
at_in (Some c) = c.at

abbrev pub next_in : List PortLog → Option Cursor → Option Did
next_in logs None = None
next_in logs (Some c) = slice_get (dids_at logs c.log) c.at

abbrev pub at_of : CursorMap → ℕ → ℕ
at_of cursors port = at_in (get nat_cmp cursors port)

abbrev pub next_of : List PortLog → CursorMap → ℕ → Option Did
next_of logs cursors port = next_in logs (get nat_cmp cursors port)

-- the cursor of a port is one of its log, whose messages have ascending numbers
abbrev pub IsCursor : List PortLog → ℕ → Option Cursor → Type 0
IsCursor logs port None = log_of port logs ≡ []
IsCursor logs port (Some c) =
    (dids_at logs c.log ≡ log_of port logs) × Ascend 0 (dids_at logs c.log)

abbrev pub AreCursors : List PortLog → CursorMap → Type 0
AreCursors logs cursors = (port : ℕ) → IsCursor logs port (get nat_cmp cursors port)

-- none is gone over yet
pub record AreNew (logs : List PortLog) (cursors : CursorMap) : Type 0 where
  pub cursors_are : AreCursors logs cursors
  pub begun : (port : ℕ) → at_of cursors port ≡ 0

-- a port has this cursor, unless it had one
pub record KeepsFirst (old new : CursorMap) (port : ℕ) (c : Cursor) : Type 0 where
  pub own : get nat_cmp new port ≡ Some (unwrap_or (get nat_cmp old port) c)
  pub others : (p : ℕ) → is_at (nat_cmp port) p ≡ false → get nat_cmp new p ≡ get nat_cmp old p

abbrev pub moved : Option Cursor → Option Cursor
moved None = None
moved (Some c) = Some (record c { at = c.at + 1 })

-- a port's log is gone over by one more
pub record Moves (old new : CursorMap) (port : ℕ) : Type 0 where
  pub own : get nat_cmp new port ≡ moved (get nat_cmp old port)
  pub others : (p : ℕ) → is_at (nat_cmp port) p ≡ false → get nat_cmp new p ≡ get nat_cmp old p
