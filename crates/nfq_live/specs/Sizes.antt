-- How many take part in a run, and how long it is.
use Rattle.std.specs.Prelude.{ℕ, length}
use Rattle.pcap_io.specs.declared.capture.Capture.{Capture}

-- So many workers behind each port work out its answers, and so many feeders feed so many frames.
pub record Size : Type 0 where
  pub workers : ℕ
  pub feeders : ℕ
  pub frames : ℕ

abbrev pub size_of : ℕ → ℕ → Capture → Size
size_of workers feeders capture =
    record { workers = workers; feeders = feeders; frames = length capture.frames }
