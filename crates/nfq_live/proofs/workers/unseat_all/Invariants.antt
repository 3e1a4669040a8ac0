use Rattle.std.proofs.Common.{◌≡◌, ◌≤◌, ◌+◌, ◌++◌, length, true, false}
use Rattle.std.specs.Prelude.{All}
use Rattle.std.specs.Vec.Iter.{into_iter_items}
use Rattle.nfq_live.specs.declared.workers.Inspector.{Inspector}
use Rattle.nfq_live.specs.Workers.{minds_at, passes_at}
use Rattle.nfq_live.proofs.workers.unseat_all.Given as goal

abbrev pub invariant-loop-seat : goal.invariant-loop-seat
invariant-loop-seat l = record {
  room : length l.ports.items + length (into_iter_items l.seat-iterator) ≤ l.ports.cap;
  more_room : length l.minds.items + length (into_iter_items l.seat-iterator) ≤ l.minds.cap;
  passes : l.ports.items ++ passes_at (into_iter_items l.seat-iterator)
      ≡ l.initial.ports.items ++ passes_at l.fn.seats.items;
  minds : l.minds.items ++ minds_at (into_iter_items l.seat-iterator)
      ≡ l.initial.minds.items ++ minds_at l.fn.seats.items;
  well : l.well ≡ true →
      All (λ (i : Inspector). i.failed ≡ false) (into_iter_items l.seat-iterator) →
      All (λ (i : Inspector). i.failed ≡ false) l.fn.seats.items;
}
