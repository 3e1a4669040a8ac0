-- The passes of several feeders are joined into one, one after the other.
use Rattle.std.specs.Prelude.{◌≡◌, ◌<◌, ℕ, List, [], ◌∷◌, ◌++◌, flat_map, filter, Option}
use Rattle.queue_core.specs.State.{Bound}
use Rattle.histories.specs.History.{history, replay}
use Rattle.histories.specs.Numbers.{queue_count}
use Rattle.script_lines.specs.declared.line.Down.{Down}
use Rattle.run_parts.specs.Ascending.{AscendFrom}
use Rattle.run_parts.specs.Feeder.{is_line_of, times_in}
use Rattle.live_runs.specs.Seen.{Seen, Ours, Theirs, entries}
use Rattle.shared_feeding.specs.Sights.{Sight, Saw, Own, AreSightsFrom, IsBefore, IsFrameOf}
use Rattle.shared_feeding.specs.Sights.{OwnAreOf, front_time, history_seen, own_lines, seen_of}

-- ---- lists that are joined

-- Two passes have seen the same entry. It is the joined pass's own just where it is that of one of
-- them, and it is never that of both.
abbrev pub IsOneMark : Seen → Seen → Seen → Type 0
IsOneMark (Ours e) (Ours f) z = ⊥
IsOneMark (Ours e) (Theirs f) z = (e ≡ f) × (z ≡ Ours e)
IsOneMark (Theirs e) (Ours f) z = (e ≡ f) × (z ≡ Ours e)
IsOneMark (Theirs e) (Theirs f) z = (e ≡ f) × (z ≡ Theirs e)

-- Of the lists of two passes one begins the other, and the joined pass has seen the longer one.
abbrev pub IsJoinedOf : List Seen → List Seen → List Seen → Type 0
IsJoinedOf [] ys zs = zs ≡ ys
IsJoinedOf (x ∷ xs) [] zs = zs ≡ x ∷ xs
IsJoinedOf (x ∷ xs) (y ∷ ys) [] = ⊥
IsJoinedOf (x ∷ xs) (y ∷ ys) (z ∷ zs) = IsOneMark x y z × IsJoinedOf xs ys zs

-- ---- what is known of them

-- the times of a feeder's share, of what is one's own
abbrev pub own_times_in : ℕ → ℕ → Sight → List ℕ
own_times_in feeders feeder (Saw e) = []
own_times_in feeders feeder (Own i) = times_in feeders feeder i

-- Of a queue in this state, what the joined pass of the first feeders has seen since: the items of
-- all of them can be put in. They are of these feeders' shares; of each share the lines are these,
-- in their order, and the times ascend.
pub record AreSharesOf (feeders count : ℕ) (q : Option Bound) (fallen : ℕ → List Down)
    (h : List Seen) : Type 0 where
  pub sights : List Sight
  pub seen : flat_map seen_of sights ≡ h
  pub each : AreSightsFrom q sights
  pub own : OwnAreOf (IsFrameOf feeders (IsBefore count)) sights
  pub lines : (feeder : ℕ) → feeder < count →
      filter (is_line_of feeders feeder) (flat_map own_lines sights) ≡ fallen feeder
  pub times : (feeder : ℕ) → feeder < count →
      AscendFrom front_time (flat_map (own_times_in feeders feeder) sights)

-- A place that the first feeders, so many, went on to feed, behind what all had seen there; their
-- passes were joined, and of each feeder these lines took effect.
pub record AreJoined (feeders count : ℕ) (fallen : ℕ → List Down) (front xs : List Seen)
    : Type 0 where
  pub more : List Seen
  pub is : xs ≡ front ++ more
  pub each : (queue : ℕ) → queue < queue_count →
      AreSharesOf feeders count (replay (history queue (entries front))) fallen
      (history_seen queue more)
