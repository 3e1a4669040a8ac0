use Rattle.std.proofs.Common.{◌≡◌, length}
use Rattle.place_rows.specs.Lists.{Every}
use Rattle.place_rows.specs.Opening.{HasNone}
use Rattle.place_rows.proofs.opening.no_senders.Given as goal

abbrev pub invariant-loop : goal.invariant-loop
invariant-loop l = record {
  many : length l.senders.items ≡ l.counter;
  none : Every HasNone l.senders.items;
}
