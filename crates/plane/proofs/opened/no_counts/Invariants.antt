use Rattle.std.proofs.Common.{◌≡◌, length}
use Rattle.place_rows.specs.Lists.{Every}
use Rattle.plane.specs.Filling.{AreZero}
use Rattle.plane.proofs.opened.no_counts.Given as goal

abbrev pub invariant-loop : goal.invariant-loop
invariant-loop l = record {
  many : length l.sent.items ≡ l.counter;
  zero : Every (AreZero l.ports) l.sent.items;
}
