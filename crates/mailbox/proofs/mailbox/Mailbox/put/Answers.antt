use Rattle.std.proofs.Common.{ap, ◌∙◌, rules}
use Rattle.mailbox.proofs.QueueRule.{puts}
use Rattle.mailbox.proofs.mailbox.Mailbox.put.Goals as goal

pub try_push_as-requires-clause-queue : goal.try_push_as-requires-clause-queue
try_push_as-requires-clause-queue g c = search rules

pub try_push_as-requires-clause-rule : goal.try_push_as-requires-clause-rule
try_push_as-requires-clause-rule g c =
    let i = c.loop.invariant in
    puts _ _ _ _ (ap (λ v. v.role.sends) i.3 ∙ c.requires.sends)
    (search rules) (search rules)
