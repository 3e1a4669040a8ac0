use Rattle.std.proofs.Common.{◌≡◌}
use Rattle.plane_tests.proofs.tests.letters.receive_all.Given as goal

abbrev pub invariant-loop : goal.invariant-loop
invariant-loop g l = l.receiver.mailbox ≡ l.initial.receiver.mailbox
