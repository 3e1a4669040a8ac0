-- The numbers of a run, each once.
use Rattle.std.specs.Prelude.{ℕ}
use Rattle.packet_entry.specs.Numbers.{last_visit}

-- enough arrivals for every packet: at its last visit it ends
abbrev pub enough_arrivals : ℕ
enough_arrivals = last_visit

-- how many rounds of the mailboxes there are at most for each frame: one for each visit that waits
abbrev pub rounds_per_frame : ℕ
rounds_per_frame = 32
