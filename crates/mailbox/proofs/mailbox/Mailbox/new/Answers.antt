use Rattle.std.proofs.Common.{rules}
use Rattle.mailbox.proofs.LetterCount.{fill_opens, fill_cuts}
use Rattle.mailbox.proofs.QueueRule.{line_opens, line_cuts}
use Rattle.mailbox.proofs.mailbox.Mailbox.new.Goals as goal

pub ruled-requires-clause-rule : goal.ruled-requires-clause-rule
ruled-requires-clause-rule c = line_opens

pub of_words-requires : goal.of_words-requires
of_words-requires c = fill_opens c.args.capacity

pub another-reading-requires-clause-rule : goal.another-reading-requires-clause-rule
another-reading-requires-clause-rule c = line_cuts _ _ (search rules)

pub split_seat-taking-requires : goal.split_seat-taking-requires
split_seat-taking-requires c = (search rules, search rules, fill_cuts _ _ _ (search rules))
