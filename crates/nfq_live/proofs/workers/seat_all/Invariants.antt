use Rattle.std.proofs.Common.{◌≡◌, ◌≤◌, ◌+◌, ◌++◌, length}
use Rattle.std.specs.Vec.Iter.{into_iter_items}
use Rattle.nfq_live.specs.Workers.{minds_at, passes_at}
use Rattle.nfq_live.proofs.workers.seat_all.Given as goal

abbrev pub invariant-loop-pass : goal.invariant-loop-pass
invariant-loop-pass l = record {
  room : length l.seats.items + length (into_iter_items l.pass-iterator) ≤ l.seats.cap;
  both : length (into_iter_items l.kept) ≡ length (into_iter_items l.pass-iterator);
  passes : passes_at l.seats.items ++ into_iter_items l.pass-iterator
      ≡ passes_at l.initial.seats.items ++ l.fn.ports.items;
  minds : minds_at l.seats.items ++ into_iter_items l.kept
      ≡ minds_at l.initial.seats.items ++ l.fn.minds.items;
}
