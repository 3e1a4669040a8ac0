-- The listing of queues: a line for each bound one, as the kernel prints it in
-- /proc/net/netfilter/nfnetlink_queue (seq_show in nfnetlink_queue.c), but by ascending number.
use Rattle.std.specs.Prelude.{ℕ, ◌-◌, ◌++◌, List, [], length, replicate, Option, Some, None}
use Rattle.std.specs.Prelude.{codes, decimal, flat_map}
use Rattle.queue_core.specs.State.{Bound}
use Rattle.histories.specs.declared.entry.Entry.{Entry}
use Rattle.histories.specs.States.{state_of, every_number}

-- a blank, as a byte
abbrev pub blank : ℕ
blank = 32

-- a number at the right of a column; a longer one stands in full
abbrev pub right_aligned : ℕ → ℕ → List ℕ
right_aligned width n = replicate (width - length (decimal n)) blank ++ decimal n

-- a number and the blank after its column
abbrev pub column : ℕ → ℕ → List ℕ
column width n = right_aligned width n ++ codes " "

-- the line of a queue: its number, its port, how many packets wait, the copy mode and range, the
-- two counts of dropped packets, the id that was used last, and a 1
abbrev pub line : ℕ → Bound → List ℕ
line queue q =
    column 5 queue ++ column 6 q.port ++ column 5 (length q.waiting) ++ column 1 q.mode
    ++ column 5 q.range ++ column 5 q.dropped ++ column 5 q.user_dropped ++ column 8 q.last
    ++ right_aligned 2 1 ++ codes "\n"

-- no line for an absent queue
abbrev pub line_of : ℕ → Option Bound → List ℕ
line_of queue None = []
line_of queue (Some q) = line queue q

abbrev pub listing : List Entry → List ℕ
listing es = flat_map (λ q. line_of q (state_of es q)) every_number
