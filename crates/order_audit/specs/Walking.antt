-- For proofs alone: histories that are gone over, entry by entry and log by log.
use Rattle.std.specs.Prelude.{◌≡◌, ◌↔◌, ◌≤◌, ◌<◌, ℕ, ◌-◌, Bool, true, false, not, ◌||◌, nat_lt}
use Rattle.std.specs.Prelude.{◌==◌, List, [], ◌++◌, length, take, Option, Some, None, is_none}
use Rattle.std.specs.Prelude.{slice_get, ◌⊎◌}
use Rattle.queue_core.specs.declared.event.Event.{Event}
use Rattle.queue_core.specs.declared.event.Event.TheVariants.{Arrive, Ask, PortClosed, DeviceDown}
use Rattle.histories.specs.declared.entry.Entry.{Entry}
use Rattle.histories.specs.declared.histories.Histories.{Histories}
use Rattle.histories.specs.declared.log.Did.{Did}
use Rattle.histories.specs.declared.log.Did.TheVariants.{Received, Sent, Closed}
use Rattle.histories.specs.declared.log.PortLog.{PortLog}
use Rattle.histories.specs.History.{history, is_of}
use Rattle.total_order.specs.Orders.{EachIs, Pairs, AreCaused}
use Rattle.total_order.specs.Steps.{Step, Has, HasLeft, AreTaken, IsSent, log_of, taken}
use Rattle.total_order.specs.TotalOrder.{IsCaused, InLogOrder, entries}
use Rattle.order_audit.specs.Sets.{has, is_among, has_notice, notifies, is_asked}
use Rattle.order_audit.specs.Rows.{places_of, AreAt, first_in, entry_at, Shortens}
use Rattle.order_audit.specs.Cursors.{CursorMap, at_of, next_of, AreCursors, Moves}
use Rattle.order_audit.specs.declared.walk.Walk.{Walk}

-- ---- what can go

-- this is the message with the number
abbrev pub is_sent : ℕ → Option Did → Bool
is_sent call None = false
is_sent call (Some (Received queue number visit)) = false
is_sent call (Some (Sent number ask answer)) = number == call
is_sent call (Some Closed) = false

-- an event can go: a packet comes again where it left, a port asks where its log has the message
-- next, and a port's queue ends where its log is over
abbrev pub can_go : List PortLog → Walk → Event → Bool
can_go logs w (Arrive card bypass room) =
    nat_lt card.visit 2 || has w.left card.number (card.visit - 1)
can_go logs w (Ask port call request) = is_sent call (next_of logs w.cursors port)
can_go logs w (PortClosed port) = is_none (next_of logs w.cursors port)
can_go logs w (DeviceDown device) = true

abbrev pub can_some_go : List PortLog → Walk → Option Entry → Bool
can_some_go logs w None = false
can_some_go logs w (Some e) = can_go logs w e.event

-- the first entry that is left of a queue's history, and its place
abbrev pub first_place : Walk → ℕ → Option ℕ
first_place w queue = first_in (places_of w.rows queue)

abbrev pub first_of : List Entry → Walk → ℕ → Option Entry
first_of es w queue = entry_at es (first_place w queue)

-- a log can be gone over by one more: a notice where its packet was taken, and a message that asks
-- nothing of a queue
abbrev pub can_pass : Walk → ℕ → Option Did → Bool
can_pass w port None = false
can_pass w port (Some (Received queue number visit)) = has_notice w.taken queue number visit
can_pass w port (Some (Sent call ask answer)) = not (has w.asked port call)
can_pass w port (Some Closed) = true

-- ---- how it goes on

abbrev pub MovesBy : Event → CursorMap → CursorMap → Type 0
MovesBy (Arrive card bypass room) old new = new ≡ old
MovesBy (Ask port call request) old new = Moves old new port
MovesBy (PortClosed port) old new = new ≡ old
MovesBy (DeviceDown device) old new = new ≡ old

-- an entry goes, in which these packets left
pub record Goes (old new : Walk) (e : Entry) (visits : List (ℕ × ℕ)) : Type 0 where
  pub rows : Shortens old.rows new.rows e.queue
  pub cursors : MovesBy e.event old.cursors new.cursors
  pub left : (number visit : ℕ) → has new.left number visit
      ≡ is_among number visit visits || has old.left number visit
  pub taken : (queue number visit : ℕ) → has_notice new.taken queue number visit
      ≡ notifies queue number visit e || has_notice old.taken queue number visit
  pub asked : new.asked ≡ old.asked

-- a log is gone over by one more
pub record Passes (old new : Walk) (port : ℕ) : Type 0 where
  pub cursors : Moves old.cursors new.cursors port
  pub rows : new.rows ≡ old.rows
  pub left : new.left ≡ old.left
  pub taken : new.taken ≡ old.taken
  pub asked : new.asked ≡ old.asked

-- ---- what is kept

-- a request that went has its message behind its port's cursor, and a port whose queue ended has
-- its cursor at the end
abbrev pub IsBehindAs : List PortLog → (ℕ → ℕ) → ℕ → Event → Type 0
IsBehindAs logs cursor at (Arrive card bypass room) = Unit {0}
IsBehindAs logs cursor at (Ask port call request) = at < cursor port
IsBehindAs logs cursor at (PortClosed port) = length (log_of port logs) ≤ cursor port
IsBehindAs logs cursor at (DeviceDown device) = Unit {0}

abbrev pub IsBehind : List PortLog → (ℕ → ℕ) → Step → Type 0
IsBehind logs cursor s = IsBehindAs logs cursor s.at s.entry.event

-- the message is no entry's request, or its request went
abbrev pub IsOver : List Entry → List Step → ℕ → ℕ → Type 0
IsOver es steps port call =
    (is_asked port call es ≡ false) ⊎ (is_asked port call (entries steps) ≡ true)

-- These steps are gone: they have an order, and these entries are left of each queue's history.
-- Each log is gone over up to its cursor.
pub record AreGone (logs : List PortLog) (es : List Entry) (steps : List Step)
    (rest : ℕ → List Entry) (cursor : ℕ → ℕ) : Type 0 where
  pub same : (queue : ℕ) → history queue es ≡ history queue (entries steps) ++ rest queue
  pub caused : AreCaused (IsCaused logs) [] steps
  pub kept : Pairs InLogOrder steps
  pub heard : (port : ℕ) → AreTaken (take (cursor port) (log_of port logs)) (entries steps)
  pub behind : EachIs (IsBehind logs cursor) steps
  pub passed : (port at call : ℕ) → at < cursor port →
      IsSent call (slice_get (log_of port logs) at) → IsOver es steps port call

-- histories are gone over so far
pub record IsWalk (h : Histories) (w : Walk) : Type 0 where
  pub steps : List Step
  pub rest : ℕ → List Entry
  pub gone : AreGone h.logs h.entries steps rest (at_of w.cursors)
  pub rows : (queue : ℕ) → AreAt h.entries queue (history queue (entries steps))
      (places_of w.rows queue) (rest queue)
  pub own : (queue : ℕ) → EachIs (λ e. is_of queue e ≡ true) (rest queue)
  pub cursors : AreCursors h.logs w.cursors
  pub left : (number visit : ℕ) →
      (has w.left number visit ≡ true) ↔ HasLeft number visit (entries steps)
  pub taken : (queue number visit : ℕ) → (has_notice w.taken queue number visit ≡ true)
      ↔ Has number visit (taken (history queue (entries steps)))
  pub asked : (port call : ℕ) → has w.asked port call ≡ is_asked port call h.entries

-- ---- the end

-- nothing of the entry's queue can go
abbrev pub Waits : Histories → Walk → Entry → Type 0
Waits h w e = can_some_go h.logs w (first_of h.entries w e.queue) ≡ false

-- the port's log can't be gone over any further
abbrev pub Rests : Histories → Walk → PortLog → Type 0
Rests h w log = can_pass w log.port (next_of h.logs w.cursors log.port) ≡ false

pub record IsStuck (h : Histories) (w : Walk) : Type 0 where
  pub queues : EachIs (Waits h w) h.entries
  pub ports : EachIs (Rests h w) h.logs

-- no entry is left of the entry's queue
abbrev pub IsLast : Walk → Entry → Type 0
IsLast w e = first_place w e.queue ≡ None
