-- The numbers of a run with threads, each once.
use Rattle.std.specs.Prelude.{ℕ, ◌^◌, ◌-◌}
use Rattle.packet_entry.specs.Numbers as shared

-- the most frames of a capture
abbrev pub most_frames : ℕ
most_frames = shared.most_frames

-- one worker is the inspector alone, which is no pool; one feeder feeds all frames
abbrev pub one_worker : ℕ
one_worker = 1

abbrev pub one_feeder : ℕ
one_feeder = 1

-- the last number to which the notices that a port received are counted beside its pass
abbrev pub most_counted : ℕ
most_counted = 2 ^ 128 - 1
