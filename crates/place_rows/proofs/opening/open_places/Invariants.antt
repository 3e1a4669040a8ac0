use Rattle.std.proofs.Common.{◌≡◌, ◌<◌, ◌≤◌, ◌++◌, ℕ, List, length, map}
use Rattle.std.specs.Prelude.{slice_get, Some}
use Rattle.std.specs.Vec.{vec_capacity}
use Rattle.std.specs.Vec.Iter.{into_iter_items}
use Rattle.std.specs.BTreeMap.{BTreeMap}
use Rattle.mailbox.specs.Views.{SenderView}
use Rattle.glance.specs.Views.{opening_writer}
use Rattle.turn_lock.specs.Passes.{view_of}
use Rattle.locked_place.specs.Views.{label_of}
use Rattle.place_rows.specs.Rows.{ArePasses, label_at}
use Rattle.place_rows.specs.Opening.{AreFirst}
use Rattle.place_rows.proofs.opening.open_places.Given as goal

abbrev pub invariant-loop-own : goal.invariant-loop-own
invariant-loop-own l = record {
  are : ArePasses label_of (label_at l.outlets) l.opened.locks.items l.opened.row.items;
  first : AreFirst (map view_of l.opened.row.items);
  number : length l.opened.locks.items ≡ l.number;
  rest : (done : List (BTreeMap ℕ SenderView)) × (l.fn.senders.items ≡ done ++ into_iter_items
      l.own-iterator)
      × (length done ≡ l.number);
  writers : (k : ℕ) → l.number ≤ k → k < l.places →
      slice_get l.writers k ≡ Some (Some (opening_writer l.outlets.board k));
  room : (vec_capacity l.opened.locks ≡ vec_capacity l.opened.row)
      × (l.places ≤ vec_capacity l.opened.row);
}
