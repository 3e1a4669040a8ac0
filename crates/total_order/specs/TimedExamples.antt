-- Lists of places written out by hand, with the times of their steps.
use Rattle.std.specs.Prelude.{ℕ, zero, suc, ◌+◌, [], ◌∷◌}
use Rattle.queue_core.specs.Numbers.{verdict_drop}
use Rattle.histories.specs.declared.entry.Entry.{Entry}
use Rattle.histories.specs.declared.histories.Histories.{Histories}
use Rattle.histories.specs.declared.log.Did.TheVariants.{Received}
use Rattle.total_order.specs.Steps.{Step}
use Rattle.total_order.specs.Places.{Lists}
use Rattle.total_order.specs.Examples.{binds, asks_for_all, waits, decides, to_queue, sent}
use Rattle.total_order.specs.Examples.{histories_of}

-- an entry, with the position of its message and its time
abbrev pub step_at : Entry → ℕ → ℕ → Step × ℕ
step_at e at time = (record { entry = e; at = at }, time)

-- ---- one place

-- Port 7 binds queue 0. Then it is told of packet 1, and asks in answer for whole packets.
abbrev pub answered_once : Histories
answered_once =
    histories_of (binds 7 1 0 4 ∷ waits 0 1 1 1 ∷ asks_for_all 7 2 0 ∷ [])
    (record { port = 7; dids = sent 1 ∷ Received 0 1 1 ∷ sent 2 ∷ [] } ∷ [])

-- packet 1 arrives at 2, and the answer comes at this time
abbrev pub one_place : ℕ → Lists
one_place time zero =
    step_at (binds 7 1 0 4) 0 1 ∷ step_at (waits 0 1 1 1) 0 2
    ∷ step_at (asks_for_all 7 2 0) 2 time ∷ []
one_place time (suc k) = []

-- ---- two places

-- Port 7 at queue 1 sends packet 1 on to queue 2, where port 8 drops it.
abbrev pub sent_on : Histories
sent_on =
    histories_of
    (binds 7 1 1 0 ∷ waits 1 1 1 1 ∷ decides 7 2 1 1 (to_queue 2)
    ∷ binds 8 1 2 0 ∷ waits 2 1 2 1 ∷ decides 8 2 2 1 verdict_drop ∷ [])
    (record { port = 7; dids = sent 1 ∷ Received 1 1 1 ∷ sent 2 ∷ [] }
    ∷ record { port = 8; dids = sent 1 ∷ Received 2 1 2 ∷ sent 2 ∷ [] } ∷ [])

-- queue 2 is at the first place and queue 1 at the second, where packet 1 leaves at 3; and it
-- arrives again at this time
abbrev pub two_places : ℕ → Lists
two_places time zero =
    step_at (binds 8 1 2 0) 0 1 ∷ step_at (waits 2 1 2 1) 0 time
    ∷ step_at (decides 8 2 2 1 verdict_drop) 2 (time + 1) ∷ []
two_places time (suc zero) =
    step_at (binds 7 1 1 0) 0 1 ∷ step_at (waits 1 1 1 1) 0 2
    ∷ step_at (decides 7 2 1 1 (to_queue 2)) 2 3 ∷ []
two_places time (suc (suc k)) = []
