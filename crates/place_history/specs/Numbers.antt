-- The number of places.
use Rattle.std.specs.Prelude.{ℕ}
use Rattle.packet_entry.specs.Numbers as shared

-- the most places that queues are divided among
abbrev pub most_places : ℕ
most_places = shared.most_places
