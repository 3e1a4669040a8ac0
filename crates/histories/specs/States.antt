-- The states that entries lead to: of one queue, and counted over all.
use Rattle.std.specs.Prelude.{ℕ, List, Option, None, Some, sum_by, length, min}
use Rattle.std.specs.List.{range_with_len}
use Rattle.queue_core.specs.declared.event.Event.{Event}
use Rattle.queue_core.specs.declared.event.Reply.{Reply}
use Rattle.queue_core.specs.declared.event.Reply.TheVariants.{Arrived, Answer, Flushed}
use Rattle.queue_core.specs.State.{Bound}
use Rattle.queue_core.specs.Step.{Stepped, step}
use Rattle.histories.specs.Numbers.{queue_count, largest_total}
use Rattle.histories.specs.declared.entry.Entry.{Entry}
use Rattle.histories.specs.History.{replay, history}

-- the state of a queue
abbrev pub state_of : List Entry → ℕ → Option Bound
state_of es queue = replay (history queue es)

-- what an event does now
abbrev pub step_of : List Entry → ℕ → Event → Stepped
step_of es queue event = step (state_of es queue) event

-- the entry of an event at a queue in this state
abbrev pub entry_in : ℕ → Option Bound → Event → Entry
entry_in queue state event =
    record { queue = queue; event = event; reply = (step state event).reply }

-- and of one that happens now
abbrev pub entry_of : List Entry → ℕ → Event → Entry
entry_of es queue event = entry_in queue (state_of es queue) event

-- ---- all queues

-- every queue number, ascending
unfoldable pub every_number : List ℕ
every_number = range_with_len 0 queue_count

-- how many packets wait
abbrev pub waiting_at : Option Bound → ℕ
waiting_at None = 0
waiting_at (Some q) = length q.waiting

abbrev pub waiting_in_all : List Entry → ℕ
waiting_in_all es = sum_by (λ q. waiting_at (state_of es q)) every_number

-- how many queues are bound
abbrev pub one_if_bound : Option Bound → ℕ
one_if_bound None = 0
one_if_bound (Some q) = 1

abbrev pub bound_in_all : List Entry → ℕ
bound_in_all es = sum_by (λ q. one_if_bound (state_of es q)) every_number

-- how many of the packets that waited left, as a reply tells it
abbrev pub taken_by : Reply → ℕ
taken_by (Arrived outcome) = 0
taken_by (Answer errno taken) = taken
taken_by (Flushed taken) = taken

-- a number that is told in 32 bits, and stops at its last value
abbrev pub told : ℕ → ℕ
told n = min n largest_total

-- what all these took out together
abbrev pub taken_in : List Entry → ℕ
taken_in es = sum_by (λ (e : Entry). taken_by e.reply) es
