-- The numbers of a port's messages.
use Rattle.std.specs.Prelude.{ℕ, ◌+◌, ◌%◌, List, Bool, true, false, count_by}
use Rattle.histories.specs.declared.log.Did.{Did}
use Rattle.histories.specs.declared.log.Did.TheVariants.{Received, Sent, Closed}
use Rattle.packet_moves.specs.Numbers.{call_count}

abbrev pub is_sent : Did → Bool
is_sent (Received queue number visit) = false
is_sent (Sent call ask answer) = true
is_sent Closed = false

-- how many messages a port sent, as a number of 32 bits
abbrev pub sent_in : List Did → ℕ
sent_in dids = count_by is_sent dids % call_count

-- the number after this one
abbrev pub after_this : ℕ → ℕ
after_this n = (n + 1) % call_count

-- the number of a port's next message, after these: they count from 1
abbrev pub next_call : List Did → ℕ
next_call dids = after_this (sent_in dids)
