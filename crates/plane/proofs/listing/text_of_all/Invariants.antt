use Rattle.std.proofs.Common.{◌≡◌}
use Rattle.std.specs.Prelude.{flat_map}
use Rattle.std.specs.List.{range_with_len}
use Rattle.place_history.specs.Lines.{text_at}
use Rattle.plane.proofs.listing.text_of_all.Given as goal

abbrev pub invariant-loop-number : goal.invariant-loop-number
invariant-loop-number l =
    l.text.items ≡ flat_map (text_at l.lines) (range_with_len 0 l.number)
