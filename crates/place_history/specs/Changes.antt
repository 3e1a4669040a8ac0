-- Queues by number, and what a call at one of them changes.
use Rattle.std.specs.Prelude.{◌≡◌, ℕ, Option, Some, false}
use Rattle.std.specs.BTreeMap.{BTreeMap, get, is_at, btree_map_len}
use Rattle.std.specs.Ordering.{nat_cmp}
use Rattle.queue_core.specs.WithOffer.{WithOffer}

abbrev pub Queues : Type 0
Queues = BTreeMap ℕ WithOffer

-- the queue with this number, if there is one
abbrev pub queue_at : Queues → ℕ → Option WithOffer
queue_at queues number = get nat_cmp queues number

-- the other queues stay as they were
abbrev pub OthersStay : Queues → Queues → ℕ → Type 0
OthersStay old new number =
    (q : ℕ) → is_at (nat_cmp number) q ≡ false → queue_at new q ≡ queue_at old q

-- the queue with this number is changed so, and no other
pub record Changes (old new : Queues) (number : ℕ) (By : WithOffer → WithOffer → Type 0) : Type 0
  where
    pub before : WithOffer
    pub after : WithOffer
    pub was : queue_at old number ≡ Some before
    pub is : queue_at new number ≡ Some after
    pub others : OthersStay old new number
    pub as_many : btree_map_len new ≡ btree_map_len old
    pub by : By before after

-- no queue is changed
pub record AreSame (old new : Queues) : Type 0 where
  pub each : (q : ℕ) → queue_at new q ≡ queue_at old q
  pub as_many : btree_map_len new ≡ btree_map_len old
