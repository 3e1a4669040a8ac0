use Rattle.std.proofs.Common.{◌≤◌}
use Rattle.queue_tests.proofs.packets.visiting.Given as goal

abbrev pub invariant-loop : goal.invariant-loop
invariant-loop l = 1 ≤ l.packet.visit
