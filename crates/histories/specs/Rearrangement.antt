-- For proofs alone: items put into the order that a list of their places gives, and the places of
-- entries by queue.
use Rattle.std.specs.Prelude.{◌≡◌, ◌<◌, ◌^◌, ℕ, List, length, slice_index, slice_index_or}
use Rattle.std.specs.Prelude.{unwrap_or, option_map}
use Rattle.std.specs.List.{range_with_len, slice_get}
use Rattle.std.specs.List.Sorted.{IsPermutation}
use Rattle.histories.specs.declared.entry.Entry.{Entry}
use Rattle.histories.specs.Grouping.{IsGrouped}

-- the places of a list, in some order
abbrev pub ArePlaces : List ℕ → Type 0
ArePlaces places = IsPermutation (range_with_len 0 (length places)) places

-- each place that `from` names is one of `to`, which leads back from there
pub record LeadsBack (from to : List ℕ) : Type 0 where
  pub within : (k : ℕ) → k < length from → slice_index from k < length to
  pub same : (k : ℕ) → k < length from → slice_index to (slice_index from k) ≡ k

-- two lists of as many places, each of which leads back from the other
pub record AreInverse (from to : List ℕ) : Type 0 where
  pub len : length to ≡ length from
  pub forth : LeadsBack from to
  pub back : LeadsBack to from

-- at each place of `ys` is the item of `xs` whose place `from` has there
pub record IsRearranged {X : Type 0} (from : List ℕ) (xs ys : List X) : Type 0 where
  pub len : length ys ≡ length xs
  pub each : (k : ℕ) (d : X) → k < length from →
      slice_index_or ys k d ≡ slice_index_or xs (slice_index from k) d

-- ---- entries

-- the queue's number of the entry at a place; 0 past the end
abbrev pub queue_at : List Entry → ℕ → ℕ
queue_at es place = unwrap_or (option_map (λ (e : Entry). e.queue) (slice_get es place)) 0

-- the places of all entries, in an order in which the entries are grouped
pub record AreByQueue (es : List Entry) (places : List ℕ) : Type 0 where
  pub few : length places < 2 ^ 32
  pub len : length places ≡ length es
  pub all : ArePlaces places
  pub groups : (gs : List Entry) → IsRearranged places es gs → IsGrouped es gs
