-- One order of all events of all queues, and times that allow one.
use Rattle.std.specs.Prelude.{◌≡◌, ℕ, List, [], map}
use Rattle.histories.specs.declared.entry.Entry.{Entry}
use Rattle.histories.specs.declared.log.PortLog.{PortLog}
use Rattle.histories.specs.declared.histories.Histories.{Histories}
use Rattle.histories.specs.History.{history}
use Rattle.total_order.specs.Orders.{AreCaused, AreTimes, Pairs, untimed}
use Rattle.total_order.specs.Steps.{Step, IsCausedAs, InLogOrderAs}

-- the queue of a step
abbrev pub queue_of : Step → ℕ
queue_of s = s.entry.queue

abbrev pub entries : List Step → List Entry
entries ss = map (λ (s : Step). s.entry) ss

-- what a step rests on is among those before it
abbrev pub IsCaused : List PortLog → List Step → Step → Type 0
IsCaused logs before s = IsCausedAs logs (entries before) s.at s.entry.event

-- the one step may come before the other, as the logs of ports go
abbrev pub InLogOrder : Step → Step → Type 0
InLogOrder a b = InLogOrderAs a.entry.event a.at b.entry.event b.at

-- These steps are one list of the entries of all queues. Its part for each queue is that queue's
-- history. An arrival of a packet's next visit comes after the entry in whose step the packet left.
-- A port's requests come in the order of its log, across all queues, and each of them after the
-- arrivals whose notices the port had received before; the port's closings come after all that it
-- asked, and after the arrivals of all notices that it received.
pub record IsTotalOrder (h : Histories) (steps : List Step) : Type 0 where
  pub same : (queue : ℕ) → history queue (entries steps) ≡ history queue h.entries
  pub caused : AreCaused (IsCaused h.logs) [] steps
  pub kept : Pairs InLogOrder steps

-- there is such a list
abbrev pub HasTotalOrder : Histories → Type 0
HasTotalOrder h = (steps : List Step) × IsTotalOrder h steps

-- These are the steps of all queues, each with a time, as logical clocks give it. Along a history
-- times never descend; they ascend from what a step rests on to the step, and along each log.
pub record AreClocked (h : Histories) (steps : List (Step × ℕ)) : Type 0 where
  pub same : (queue : ℕ) → history queue (entries (untimed steps)) ≡ history queue h.entries
  pub times : AreTimes queue_of (IsCaused h.logs) InLogOrder steps

-- there are such times
abbrev pub HasClocks : Histories → Type 0
HasClocks h = (steps : List (Step × ℕ)) × AreClocked h steps
