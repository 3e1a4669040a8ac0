use Rattle.std.proofs.Common.{map, ℕ}
use Rattle.turn_lock.specs.Passes.{view_of}
use Rattle.locked_place.specs.Views.{PlaceLabel, label_of}
use Rattle.place_rows.specs.Rows.{ArePasses}
use Rattle.plane.proofs.PlaneEnd.{JoinedSo}
use Rattle.plane.proofs.finish.join_ports.Given as goal

abbrev pub invariant-loop-pass : goal.invariant-loop-pass
invariant-loop-pass g l = record {
  into : (named : ℕ → PlaceLabel) → ArePasses label_of named l.locks.items l.initial.into.items →
      ArePasses label_of named l.locks.items l.into.items;
  so : JoinedSo (map view_of l.initial.into.items) (map view_of l.into.items) l.kept
      l.initial.remains l.remains l.fn.ports l.pass-iterator;
}
