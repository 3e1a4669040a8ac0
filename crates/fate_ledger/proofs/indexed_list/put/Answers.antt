use Rattle.std.proofs.Common.{◌∙◌, arith}
use Rattle.fate_ledger.proofs.IdIndex.{indexed_in, undone, one_ahead, comes_last}
use Rattle.fate_ledger.proofs.indexed_list.put.Goals as goal

pub returns-in-Ok-insert-clause-ok : goal.returns-in-Ok-insert-clause-ok
returns-in-Ok-insert-clause-ok c =
    c.in-Ok-insert.ensures.entries
    ∙ comes_last _ c.args.place (c.args.id, c.args.card) c.requires.ahead

pub returns-in-Ok-insert-clause-indexed : goal.returns-in-Ok-insert-clause-indexed
returns-in-Ok-insert-clause-indexed c =
    indexed_in _ _ _ _ c.args.id c.args.place c.requires.indexed c.args.card
    (c.requires.ahead c.args.place (omega arith)) c.in-Ok-insert.ensures.ordered
    c.in-Ok-insert.ensures.updates.0 c.in-Ok.ensures.updates.0

pub returns-in-Err-clause-indexed : goal.returns-in-Err-clause-indexed
returns-in-Err-clause-indexed c =
    undone _ _ _ _ c.args.id c.args.place c.requires.indexed _
    (c.requires.ahead c.args.place (omega arith)) c.in-Err.ensures.err c.in-Err.ensures.ordered
    c.in-Ok.ensures.updates.0 c.remove.ensures.updates.0

pub returns-in-Ok-insert-clause-ahead : goal.returns-in-Ok-insert-clause-ahead
returns-in-Ok-insert-clause-ahead c =
    one_ahead c.args.by_place.now c.insert-2.new.self c.args.place (c.args.id, c.args.card)
    c.in-Ok-insert.ensures.updates.0 c.requires.ahead
