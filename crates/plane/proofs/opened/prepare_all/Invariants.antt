use Rattle.std.proofs.Common.{◌≡◌, ◌++◌, map}
use Rattle.std.specs.Vec.Iter.{into_iter_items}
use Rattle.place_rows.specs.Lists.{Every}
use Rattle.plane.specs.Filling.{IsReady, IsUnheard, receiver_in}
use Rattle.plane.proofs.opened.prepare_all.Given as goal

abbrev pub invariant-loop-receiver : goal.invariant-loop-receiver
invariant-loop-receiver l = record {
  ready : Every (IsReady l.places l.ports) l.all.items;
  same : map receiver_in l.all.items ++ into_iter_items l.receiver-iterator
      ≡ l.fn.receivers.items;
  rest : Every IsUnheard (into_iter_items l.receiver-iterator);
}
