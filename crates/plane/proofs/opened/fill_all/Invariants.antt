use Rattle.std.proofs.Common.{◌≤◌, ◌+◌, ℕ, List, length, map}
use Rattle.std.specs.Vec.{vec_capacity}
use Rattle.std.specs.Vec.Iter.{into_iter_items}
use Rattle.turn_lock.specs.Passes.{view_of}
use Rattle.locked_place.specs.Views.{PlaceLabel, label_of}
use Rattle.place_rows.specs.Lists.{Every}
use Rattle.place_rows.specs.Rows.{ArePasses, id_of, known_of}
use Rattle.plane.specs.Filling.{IsReady}
use Rattle.plane.specs.Remaining.{IsRowOf}
use Rattle.plane.proofs.RowSplits.{FilledSo}
use Rattle.plane.proofs.opened.fill_all.Given as goal

abbrev pub invariant-loop-one : goal.invariant-loop-one
invariant-loop-one l = record {
  rows : (named : ℕ → PlaceLabel) → ArePasses label_of named l.locks.items l.initial.row.items →
      ArePasses label_of named l.locks.items l.row.items
      × Every (IsRowOf (map id_of l.locks.items) named) l.passes.items;
  ready : (places : ℕ) (ports : List ℕ) → Every (IsReady places ports) l.fn.unfilled.items →
      Every (IsReady places ports) (into_iter_items l.one-iterator);
  room : length l.passes.items + length (into_iter_items l.one-iterator)
      ≤ vec_capacity l.passes;
  so : FilledSo (known_of (map view_of l.initial.row.items)) (known_of (map view_of l.row.items))
      l.fn.unfilled.items (into_iter_items l.one-iterator) l.passes.items;
}
