-- What waits at a queue.
use Rattle.std.specs.Prelude.{◌≡◌, ℕ, List, ◌∷◌}
use Rattle.packet_entry.specs.declared.packet.Card.{Card}

-- the oldest of these waits under this id
pub record IsOldest (waiting : List (ℕ × Card)) (id : ℕ) : Type 0 where
  pub card : Card
  pub others : List (ℕ × Card)
  pub first : waiting ≡ (id, card) ∷ others
