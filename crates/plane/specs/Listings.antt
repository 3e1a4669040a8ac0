-- The listing of the queues of all places.
use Rattle.std.specs.Prelude.{◌≡◌, ◌++◌, ℕ, List, flat_map}
use Rattle.histories.specs.Listing.{line_of}
use Rattle.histories.specs.States.{every_number}
use Rattle.locked_place.specs.Turns.{LooksOn}
use Rattle.place_rows.specs.Rows.{Known, TurnedUpTo}
use Rattle.place_turns.specs.Listings.{state_in}

-- Each of so many places was looked at, in a turn of its own, and the text has a line for each
-- queue that was bound then, by ascending number.
pub record IsListed (places : ℕ) (olds news : List Known) (before after : List ℕ) : Type 0 where
  pub looked : TurnedUpTo places olds news LooksOn
  pub text : after ≡ before
      ++ flat_map (λ queue. line_of queue (state_in places news queue)) every_number
