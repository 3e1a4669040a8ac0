use Rattle.std.specs.Prelude.{◌≡◌, ◌++◌, replicate}
use Rattle.locked_place.proofs.stamps.Stamps.stamp_all.Given as goal

abbrev pub invariant-loop : goal.invariant-loop
invariant-loop l = l.self ≡ l.initial.self ++ replicate l.counter l.time
