use Rattle.std.proofs.Common.{◌≡◌, map, length}
use mathlib.Core.List.{IsPrefix}
use Rattle.turn_lock.specs.Passes.{view_of}
use Rattle.place_rows.proofs.PlaceEnds.{PlacesLeft}
use Rattle.place_rows.proofs.ending.end_places.Given as goal

abbrev pub invariant-loop-lock : goal.invariant-loop-lock
invariant-loop-lock l = record {
  locks : IsPrefix l.locks.items l.fn.locks.items;
  row : IsPrefix l.row.items l.fn.row.items;
  as_many : length l.locks.items ≡ length l.row.items;
  left : PlacesLeft l.outlets.board.places (map view_of l.fn.row.items) (length l.locks.items)
      l.kept l.entries.items l.initial.receivers.items l.receivers.items;
}

abbrev pub decreases-loop-lock : goal.decreases-loop-lock
decreases-loop-lock l = length l.locks.items
