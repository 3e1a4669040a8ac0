-- How many notices a pass put into each port's mailbox, as its counts say it place by place.
use Rattle.std.specs.Prelude.{◌≡◌, ◌≢◌, ◌<◌, ◌≤◌, ◌+◌, ◌^◌, ℕ, List, length, slice_get}
use Rattle.std.specs.Prelude.{Option, Some, None, IfSome, IsSome, is_some}
use Rattle.std.specs.BTreeMap.{BTreeMap, get}
use Rattle.std.specs.Ordering.{nat_cmp}
use Rattle.turn_lock.specs.Places.{Ascends}
use Rattle.turn_lock.specs.Views as lock
use Rattle.locked_place.specs.declared.arrivals.Placed.{Placed}
use Rattle.locked_place.specs.declared.arrivals.Placed.TheVariants.{Waiting, Back}
use Rattle.locked_place.specs.Views.{PlaceLabel, label_of}
use Rattle.place_rows.specs.Rows.{Known}
use Rattle.place_rows.specs.Shares.{sent_at}

-- no count says 0
abbrev pub count_of : Option ℕ → ℕ
count_of None = 0
count_of (Some n) = n

-- how many entries a place has at most, since 64 bits count them
abbrev pub most_entries : ℕ
most_entries = 18446744073709551615

-- The counts by port say how many notices this pass's own entries put there, and there is one for
-- each port that has a sender at its place, and for no other. 64 bits count the entries up to the
-- last of its own.
pub record IsCounted (v : Known) (counts : BTreeMap ℕ ℕ) : Type 0 where
  pub many : (port : ℕ) → sent_at port v ≡ count_of (get nat_cmp counts port)
  pub there : (named : PlaceLabel) → lock.label_of label_of v ≡ Some named → (port : ℕ) →
      IsSome (named.senders port) → IsSome (get nat_cmp counts port)
  pub only : (named : PlaceLabel) → lock.label_of label_of v ≡ Some named → (port : ℕ) →
      IsSome (get nat_cmp counts port) → IsSome (named.senders port)
  pub few : Ascends 0 most_entries v.own

-- the same of each place
pub record AreCounted (known : List Known) (counts : List (BTreeMap ℕ ℕ)) : Type 0 where
  pub as_many : length counts ≡ length known
  pub each : (k : ℕ) (v : Known) → slice_get known k ≡ Some v →
      IfSome (slice_get counts k) (IsCounted v)

-- ---- one notice more

-- 64 bits count the notice of a packet that waits, and there is a count for its port
abbrev pub CanCount : BTreeMap ℕ ℕ → Placed → Type 0
CanCount counts (Waiting port) =
    IsSome (get nat_cmp counts port) × (count_of (get nat_cmp counts port) + 1 < 2 ^ 64)
CanCount counts (Back outcome back) = Unit {0}

-- it was counted, and no other
abbrev pub HasCounted : BTreeMap ℕ ℕ → BTreeMap ℕ ℕ → Placed → Type 0
HasCounted olds news (Waiting port) =
    (get nat_cmp news port ≡ Some (count_of (get nat_cmp olds port) + 1))
    × ((p : ℕ) → p ≢ port → get nat_cmp news p ≡ get nat_cmp olds p)
HasCounted olds news (Back outcome back) = news ≡ olds

-- ---- counts of passes that are split off others, and joined

-- counts for the ports of these, which say 0 of each
pub record AreZeroed (olds news : BTreeMap ℕ ℕ) : Type 0 where
  pub none : (port : ℕ) → count_of (get nat_cmp news port) ≡ 0
  pub same : (port : ℕ) → is_some (get nat_cmp news port) ≡ is_some (get nat_cmp olds port)

-- and so place by place, of the first n places
pub record HaveZeros (n : ℕ) (olds news : List (BTreeMap ℕ ℕ)) : Type 0 where
  pub as_many : length news ≡ n
  pub each : (k : ℕ) (old new : BTreeMap ℕ ℕ) → slice_get olds k ≡ Some old →
      slice_get news k ≡ Some new → AreZeroed old new

-- these counts can be added to those: those are for all their ports, and 64 bits hold each sum
pub record CanAdd (into from : BTreeMap ℕ ℕ) : Type 0 where
  pub there : (port : ℕ) → IsSome (get nat_cmp from port) → IsSome (get nat_cmp into port)
  pub fits : (port : ℕ) →
      count_of (get nat_cmp into port) + count_of (get nat_cmp from port) < 2 ^ 64

-- and to those of this place
abbrev pub CanAddAt : List (BTreeMap ℕ ℕ) → ℕ → BTreeMap ℕ ℕ → Type 0
CanAddAt intos place from =
    (into : BTreeMap ℕ ℕ) → slice_get intos place ≡ Some into → CanAdd into from

-- they were added
pub record AreSums (into from after : BTreeMap ℕ ℕ) : Type 0 where
  pub sums : (port : ℕ) → count_of (get nat_cmp after port)
      ≡ count_of (get nat_cmp into port) + count_of (get nat_cmp from port)
  pub same : (port : ℕ) → is_some (get nat_cmp after port) ≡ is_some (get nat_cmp into port)

-- the counts of each place can be added
pub record CanAddAll (intos froms : List (BTreeMap ℕ ℕ)) : Type 0 where
  pub both : length froms ≡ length intos
  pub each : (k : ℕ) (into from : BTreeMap ℕ ℕ) → slice_get intos k ≡ Some into →
      slice_get froms k ≡ Some from → CanAdd into from

-- those of place n and of the places after it were added
pub record AreAllSums (n : ℕ) (intos froms afters : List (BTreeMap ℕ ℕ)) : Type 0 where
  pub done : (k : ℕ) (into from after : BTreeMap ℕ ℕ) → n ≤ k → slice_get intos k ≡ Some into →
      slice_get froms k ≡ Some from → slice_get afters k ≡ Some after → AreSums into from after
  pub rest : (k : ℕ) → k < n → slice_get afters k ≡ slice_get intos k
  pub as_many : length afters ≡ length intos
