use Rattle.std.proofs.Common.{ap, ◌∙◌, rules}
use Rattle.mailbox.proofs.LetterCount.{fill_splits}
use Rattle.mailbox.proofs.QueueRule.{line_splits}
use Rattle.mailbox.proofs.mailbox.Mailbox.split.Goals as goal

pub another-pass-requires-clause-rule : goal.another-pass-requires-clause-rule
another-pass-requires-clause-rule c =
    let i = c.sender.invariant in line_splits _ _ i.sends i.gets (search rules)

pub split_seat-chair-requires : goal.split_seat-chair-requires
split_seat-chair-requires c =
    let i = c.sender.invariant in (
      search rules,
      search rules,
      fill_splits _ _ _ (ap (λ r. r.sends) i.role ∙ i.sends) (ap (λ r. r.gets) i.role ∙ i.gets)
          (ap (λ r. r.number) i.role ∙ (search rules)),
    )
