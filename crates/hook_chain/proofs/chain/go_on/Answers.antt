use Rattle.std.proofs.Common.{Some, ap, ◌∙◌}
use Rattle.hook_chain.proofs.Views.{first_is}
use Rattle.hook_chain.proofs.chain.go_on.Goals as goal

pub returns-in-Repeat : goal.returns-in-Repeat
returns-in-Repeat c =
    rw c.in-Repeat.is
    (ap (λ next. Some next) (c.enter-in-Repeat.ensures
    ∙ first_is c.args.tables.now c.args.key c.args.seen.now c.args.seen.now.table
    c.first_table.result c.first_table.ensures))
