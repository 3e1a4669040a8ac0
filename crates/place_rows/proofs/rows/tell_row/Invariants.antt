use Rattle.std.proofs.Common.{map, ℕ}
use Rattle.turn_lock.specs.Passes.{view_of}
use Rattle.locked_place.specs.Views.{PlaceLabel, label_of}
use Rattle.place_rows.specs.Rows.{ArePasses}
use Rattle.place_rows.specs.Meeting.{ToldUpTo}
use Rattle.place_rows.proofs.rows.tell_row.Given as goal

abbrev pub invariant-loop-place : goal.invariant-loop-place
invariant-loop-place l = record {
  from : (named : ℕ → PlaceLabel) → ArePasses label_of named l.locks.items l.initial.from.items →
      ArePasses label_of named l.locks.items l.from.items;
  into : (named : ℕ → PlaceLabel) → ArePasses label_of named l.locks.items l.initial.into.items →
      ArePasses label_of named l.locks.items l.into.items;
  told : ToldUpTo l.place (map view_of l.initial.from.items) (map view_of l.initial.into.items)
      (map view_of l.from.items) (map view_of l.into.items);
}
