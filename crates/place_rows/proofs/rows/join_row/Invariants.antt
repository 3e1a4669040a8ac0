use Rattle.std.proofs.Common.{map, length, ℕ}
use mathlib.Core.List.{IsPrefix}
use Rattle.turn_lock.specs.Passes.{view_of}
use Rattle.locked_place.specs.Views.{PlaceLabel, label_of}
use Rattle.place_rows.specs.Rows.{ArePasses}
use Rattle.place_rows.specs.Joining.{RowJoined}
use Rattle.place_rows.proofs.rows.join_row.Given as goal

abbrev pub invariant-loop-pass : goal.invariant-loop-pass
invariant-loop-pass l = record {
  into : (named : ℕ → PlaceLabel) → ArePasses label_of named l.locks.items l.initial.into.items →
      ArePasses label_of named l.locks.items l.into.items;
  from : IsPrefix l.from.items l.fn.from.items;
  joined : RowJoined (length l.from.items) (map view_of l.initial.into.items) (map view_of
      l.fn.from.items)
      (map view_of l.into.items);
}

abbrev pub decreases-loop-pass : goal.decreases-loop-pass
decreases-loop-pass l = goal.left-loop-pass l
