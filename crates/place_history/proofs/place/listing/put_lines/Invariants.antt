use Rattle.std.proofs.Common.{◌≤◌, ◌-◌}
use Rattle.histories.specs.Numbers.{queue_count}
use Rattle.place_history.specs.Lines.{AreLinedTo}
use Rattle.place_history.proofs.place.listing.put_lines.Given as goal

abbrev pub invariant-loop-number : goal.invariant-loop-number
invariant-loop-number l = record {
  within : l.from ≤ queue_count;
  lined : AreLinedTo l.from l.held.entries.items l.initial.lines l.lines;
}

abbrev pub decreases-loop-number : goal.decreases-loop-number
decreases-loop-number l = queue_count - l.from
