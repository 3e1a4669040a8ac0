use Rattle.std.proofs.Common.{◌≡◌}
use Rattle.mailbox.proofs.mailbox.Mailbox.receive_mail.Given as goal

abbrev pub invariant-loop : goal.invariant-loop
invariant-loop g l = l.receiver ≡ l.initial.receiver
