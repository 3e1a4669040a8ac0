use Rattle.std.proofs.Common.{codes}
use Rattle.journals.specs.Format as text
use Rattle.journals.proofs.Texts.{framed}
use Rattle.journals.proofs.writing.push_journal.Goals as goal

pub returns : goal.returns
returns c =
    framed c.append_ending.result _ _ _ _ (text.heading c.args.version)
    (text.histories c.args.version c.args.histories.now) (codes "end\n")
    c.in_ok-push_heading.ensures.ok c.in_ok-push_histories.ensures c.append_ending.ensures.ok
