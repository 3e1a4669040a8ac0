-- The numbers of queues and of totals, each once.
use Rattle.std.specs.Prelude.{ℕ}

-- the number of queue numbers: they are of 16 bits, `res_id` of nfgenmsg (uapi nfnetlink.h)
abbrev pub queue_count : ℕ
queue_count = 65536

-- the last value of a number of packets that is told of several queues: it is of 32 bits
abbrev pub largest_total : ℕ
largest_total = 4294967295
