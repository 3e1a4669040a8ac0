-- The copy range of a queue.
use Rattle.std.specs.Prelude.{ℕ, ◌||◌, nat_lt, ◌==◌, if◌then◌else◌}
use Rattle.nfqa_msgs.specs.Numbers.{longest_range}

-- the range that a request asks for: 0 and what is above the largest mean the largest
-- (nfqnl_set_mode)
abbrev pub range_of : ℕ → ℕ
range_of range = if (range == 0) || nat_lt longest_range range then longest_range else range
