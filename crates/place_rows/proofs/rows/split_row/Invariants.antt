use Rattle.std.proofs.Common.{map, ℕ, ◌≤◌, length}
use Rattle.std.specs.Vec.{vec_capacity}
use Rattle.turn_lock.specs.Passes.{view_of}
use Rattle.locked_place.specs.Views.{PlaceLabel, label_of}
use Rattle.place_rows.specs.Rows.{ArePasses}
use Rattle.place_rows.proofs.ToldRows.{SplitUpTo}
use Rattle.place_rows.proofs.RowPasses.{ArePassesUpTo}
use Rattle.place_rows.proofs.rows.split_row.Given as goal

abbrev pub invariant-loop-place : goal.invariant-loop-place
invariant-loop-place l = record {
  row : (named : ℕ → PlaceLabel) → ArePasses label_of named l.locks.items l.initial.row.items →
      ArePasses label_of named l.locks.items l.row.items;
  made : (named : ℕ → PlaceLabel) → ArePasses label_of named l.locks.items l.initial.row.items →
      ArePassesUpTo label_of named l.locks.items l.place l.made.items;
  split : SplitUpTo l.place (map view_of l.initial.row.items) (map view_of l.row.items)
      (map view_of l.made.items);
  room : length l.locks.items ≤ vec_capacity l.made;
}
