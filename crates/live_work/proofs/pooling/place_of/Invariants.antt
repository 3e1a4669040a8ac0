use Rattle.std.proofs.Common.{◌≡◌, false}
use Rattle.std.specs.Prelude.{nat_eq, take}
use Rattle.std.specs.List.{list_any}
use Rattle.live_work.proofs.pooling.place_of.Given as goal

abbrev pub invariant-loop-at : goal.invariant-loop-at
invariant-loop-at l = list_any (nat_eq l.port) (take l.at l.script.ports) ≡ false
