use Rattle.std.proofs.Common.{◌≡◌, ◌≤◌, ◌-◌, flat_map}
use Rattle.std.specs.List.{range_with_len}
use Rattle.histories.specs.Numbers.{queue_count}
use Rattle.histories.specs.States.{state_of}
use Rattle.histories.specs.Listing.{line_of}
use Rattle.place_history.proofs.place.listing.lines.Given as goal

abbrev pub invariant-loop-number : goal.invariant-loop-number
invariant-loop-number l =
    record {
      within : l.from ≤ queue_count;
      lines : l.lines.items
          ≡ flat_map (λ q. line_of q (state_of l.fn.held.entries.items q))
          (range_with_len 0 l.from);
    }

abbrev pub decreases-loop-number : goal.decreases-loop-number
decreases-loop-number l = queue_count - l.from
