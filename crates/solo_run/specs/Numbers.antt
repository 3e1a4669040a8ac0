-- The numbers of a run on one thread, each once. They are this project's own.
use Rattle.std.specs.Prelude.{ℕ}
use Rattle.packet_entry.specs.Numbers as shared

-- the most frames of a capture
abbrev pub most_frames : ℕ
most_frames = shared.most_frames
