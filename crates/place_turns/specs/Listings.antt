-- Lines of the queues of places.
use Rattle.std.specs.Prelude.{◌≡◌, ◌<◌, ◌≤◌, ℕ, List, [], Option, Some, None, slice_get}
use Rattle.std.specs.BTreeMap.{BTreeMap}
use Rattle.queue_core.specs.State.{Bound}
use Rattle.histories.specs.Listing.{line_of}
use Rattle.histories.specs.Numbers.{queue_count}
use Rattle.histories.specs.States.{state_of}
use Rattle.histories.specs.Places.{place_for}
use Rattle.place_history.specs.Lines.{text_at}
use Rattle.place_rows.specs.Rows.{Known}

-- the state of a queue, in what was seen of its place
abbrev pub state_seen : Option Known → ℕ → Option Bound
state_seen None queue = None
state_seen (Some v) queue = state_of v.seen queue

abbrev pub state_in : ℕ → List Known → ℕ → Option Bound
state_in places known queue = state_seen (slice_get known (place_for queue places)) queue

-- The lines of the queues of one place were put among others.
pub record PutsLines (places place : ℕ) (known : List Known) (olds news : BTreeMap ℕ (List ℕ))
    : Type 0 where
  pub here : (queue : ℕ) → queue < queue_count → place_for queue places ≡ place →
      text_at olds queue ≡ [] →
      text_at news queue ≡ line_of queue (state_in places known queue)
  pub elsewhere : (queue : ℕ) → (place_for queue places ≡ place → ⊥) →
      text_at news queue ≡ text_at olds queue

-- These are the lines of the queues of the first n of so many places.
pub record AreLinesUpTo (places n : ℕ) (known : List Known) (lines : BTreeMap ℕ (List ℕ)) : Type 0
  where
    pub here : (queue : ℕ) → queue < queue_count → place_for queue places < n →
        text_at lines queue ≡ line_of queue (state_in places known queue)
    pub none : (queue : ℕ) → n ≤ place_for queue places → text_at lines queue ≡ []
