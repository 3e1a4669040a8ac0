-- For proofs alone: whether two arrivals are the same, and where one stands in a list.
use Rattle.std.specs.Prelude.{◌≡◌, ◌<◌, ℕ, List, length, Bool, true, false, ◌&&◌, ◌==◌}
use Rattle.std.specs.Prelude.{bytes_eq, slice_index_or}
use Rattle.std.specs.Bool.{beq}
use Rattle.packet_entry.specs.declared.packet.Card.{Card}
use Rattle.histories.specs.Journeys.{Arrival}

-- the numbers of two cards, and their bytes
abbrev pub has_same_place : Card → Card → Bool
has_same_place c d =
    (c.number == d.number) && ((c.visit == d.visit) && (c.table == d.table))

abbrev pub has_same_marks : Card → Card → Bool
has_same_marks c d =
    (c.mark == d.mark) && ((c.priority == d.priority) && ((c.seconds == d.seconds)
    && (c.micros == d.micros)))

abbrev pub has_same_bytes : Card → Card → Bool
has_same_bytes c d =
    (c.protocol == d.protocol) && (bytes_eq c.link d.link && bytes_eq c.bytes d.bytes)

abbrev pub is_same_card : Card → Card → Bool
is_same_card c d = has_same_place c d && (has_same_marks c d && has_same_bytes c d)

abbrev pub is_same : Arrival → Arrival → Bool
is_same a b = (a.queue == b.queue) && (beq a.bypass b.bypass && is_same_card a.card b.card)

-- this arrival stands at a place, or nowhere
abbrev pub StandsAt : List Arrival → Arrival → ℕ → Type 0
StandsAt xs a place =
    (place < length xs) × ((other : Arrival) → is_same (slice_index_or xs place other) a ≡ true)

abbrev pub StandsNowhere : List Arrival → Arrival → Type 0
StandsNowhere xs a =
    (place : ℕ) (other : Arrival) → place < length xs →
    is_same (slice_index_or xs place other) a ≡ false
