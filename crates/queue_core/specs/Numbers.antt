-- The numbers of a queue's rules, each once: uapi linux/netfilter.h,
-- linux/netfilter/nfnetlink_queue.h and nfnetlink_queue.c. None has a unit.
use Rattle.std.specs.Prelude.{ℕ}

-- how many packets may wait in a queue that was never told otherwise, `NFQNL_QMAX_DEFAULT`
abbrev pub default_maximum : ℕ
default_maximum = 1024

-- the number of ids: they are of 32 bits
abbrev pub id_count : ℕ
id_count = 4294967296

-- the last value of a count: counts are of 32 bits
abbrev pub largest_count : ℕ
largest_count = 4294967295

-- a config request's flags from this one on are unknown, `NFQA_CFG_F_MAX`
abbrev pub first_unknown_flag : ℕ
first_unknown_flag = 32

-- ---- verdicts

-- the bits that say which verdict it is, `NF_VERDICT_MASK`
abbrev pub verdict_mask : ℕ
verdict_mask = 0xff

-- `NF_DROP`
abbrev pub verdict_drop : ℕ
verdict_drop = 0

-- `NF_ACCEPT`
abbrev pub verdict_accept : ℕ
verdict_accept = 1

-- `NF_STOLEN`
abbrev pub verdict_stolen : ℕ
verdict_stolen = 2

-- `NF_QUEUE`
abbrev pub verdict_queue : ℕ
verdict_queue = 3

-- `NF_REPEAT`
abbrev pub verdict_repeat : ℕ
verdict_repeat = 4

-- `NF_STOP`
abbrev pub verdict_stop : ℕ
verdict_stop = 5

-- the bit of a queue verdict that lets the packet go on where that queue is absent,
-- `NF_VERDICT_FLAG_QUEUE_BYPASS`
abbrev pub bypass_bit : ℕ
bypass_bit = 0x8000

-- the place of the queue's number in a queue verdict: its high 16 bits, from `NF_VERDICT_QBITS` on
abbrev pub queue_number_place : ℕ
queue_number_place = 65536
