use Rattle.std.proofs.Common.{◌≡◌}
use Rattle.plane_tests.proofs.tests.letters.send_until_taken.Given as goal

abbrev pub invariant-loop : goal.invariant-loop
invariant-loop g l = l.sender.mailbox ≡ l.initial.sender.mailbox
