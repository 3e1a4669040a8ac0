-- Which of the waiting packets a batch takes (nfqnl_recv_verdict_batch in nfnetlink_queue.c).
use Rattle.std.specs.Prelude.{◌≡◌, ◌≤◌, ◌<◌, ℕ, ◌+◌, ◌-◌, ◌%◌, ◌/◌, ◌++◌, List, [], ◌∷◌, length}
use Rattle.std.specs.Prelude.{false, if◌then◌else◌, All}
use Rattle.packet_entry.specs.declared.packet.Card.{Card}
use Rattle.queue_core.specs.Numbers.{id_count}
use Rattle.queue_core.specs.Ids.{after}

-- The share of a batch with this maximum: from the oldest on, up to the first whose id is after the
-- maximum.
abbrev pub share : List (ℕ × Card) → ℕ → List (ℕ × Card)
share [] maximum = []
share (w ∷ ws) maximum = if after w.0 maximum then [] else w ∷ share ws maximum

-- these stand first among those that wait, and none has an id after the maximum
pub record IsBefore (waiting : List (ℕ × Card)) (maximum : ℕ) (first : List (ℕ × Card)) : Type 0
  where
    pub rest : List (ℕ × Card)
    pub is_first : waiting ≡ first ++ rest
    pub none_after : All (λ w. after w.0 maximum ≡ false) first

-- the longest list of such
pub record IsLongestBefore (waiting : List (ℕ × Card)) (maximum : ℕ) (first : List (ℕ × Card))
    : Type 0 where
  pub before : IsBefore waiting maximum first
  pub longest : (other : List (ℕ × Card)) → IsBefore waiting maximum other →
      length other ≤ length first

-- how far an id is from another, counted up modulo the number of ids
abbrev pub distance : ℕ → ℕ → ℕ
distance from id = (id + id_count - from) % id_count

-- from this distance on, no id is nearer to the first than the one before it, and each is nearer
-- than half of all ids
abbrev pub AscendFrom : ℕ → ℕ → List (ℕ × Card) → Type 0
AscendFrom first least [] = Unit {0}
AscendFrom first least (w ∷ ws) =
    (least ≤ distance first w.0) × (distance first w.0 < id_count / 2)
    × AscendFrom first (distance first w.0) ws

-- ids are of 32 bits
abbrev pub AreIds : List (ℕ × Card) → Type 0
AreIds [] = Unit {0}
AreIds (w ∷ ws) = (w.0 < id_count) × AreIds ws
