use Rattle.std.proofs.lemmas.Result.{IfOk-weaker}
use Rattle.journal_audit.proofs.Beginnings.{none_if_legal}
use Rattle.journal_audit.proofs.first_illegal.find_illegal.Goals as goal

pub returns-clause-none : goal.returns-clause-none
returns-clause-none c =
    IfOk-weaker c.first_in.result _ _
    (λ place is. none_if_legal c.args.histories.now.entries place is) c.first_in.ensures
