use Rattle.std.proofs.Common.{◌≡◌, length}
use Rattle.plane_tests.proofs.tests.pools.notices.Given as goal

abbrev pub invariant-loop-before : goal.invariant-loop-before
invariant-loop-before l = length l.all.items ≡ l.before
