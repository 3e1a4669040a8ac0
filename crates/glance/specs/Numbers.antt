-- The numbers of boards, each once. They are this project's own.
use Rattle.std.specs.Prelude.{ℕ}
use Rattle.packet_entry.specs.Numbers as shared

-- how many places a board has, at least and at most
abbrev pub least_places : ℕ
least_places = 1

abbrev pub most_places : ℕ
most_places = shared.most_places

-- a place's totals stand in one word: the number of waiting packets in its lower 24 bits
abbrev pub waiting_span : ℕ
waiting_span = 16777216

-- and the number of events in the 40 bits above
abbrev pub events_span : ℕ
events_span = 1099511627776
