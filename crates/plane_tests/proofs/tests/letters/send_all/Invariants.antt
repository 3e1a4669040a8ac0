use Rattle.std.proofs.Common.{◌≡◌}
use Rattle.plane_tests.proofs.tests.letters.send_all.Given as goal

abbrev pub invariant-loop-number : goal.invariant-loop-number
invariant-loop-number g l = l.sender.mailbox ≡ l.initial.sender.mailbox
