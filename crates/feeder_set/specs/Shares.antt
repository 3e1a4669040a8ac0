-- The frames of a feeder's share, one after the other.
use Rattle.std.specs.Prelude.{◌≡◌, ◌≤◌, ◌<◌, ◌+◌, ◌-◌, ◌%◌, ℕ}
use Rattle.hook_chain.specs.Numbers.{most_feeders}
use Rattle.feeder_set.specs.declared.share.Share.{Share}

-- a feeder, and the number of the frame of its share that comes next
pub record FeederState : Type 0 where
  pub share : Share
  pub next : ℕ

-- a feeder that has fed nothing yet
abbrev pub first_of : Share → FeederState
first_of share = record { share = share; next = share.number + 1 }

-- The frame with this number is one of the share. Frames count from 1, feeders from 0.
pub record IsNextOf (s : Share) (next : ℕ) : Type 0 where
  pub some : 1 ≤ s.feeders
  pub few : s.feeders ≤ most_feeders
  pub number : s.number < s.feeders
  pub counted : 1 ≤ next
  pub own : (next - 1) % s.feeders ≡ s.number
