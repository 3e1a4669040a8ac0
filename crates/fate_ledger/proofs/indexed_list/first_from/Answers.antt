use Rattle.fate_ledger.proofs.IdIndex.{none_from, found_from}
use Rattle.fate_ledger.proofs.indexed_list.first_from.Goals as goal

pub returns-in-Some : goal.returns-in-Some
returns-in-Some c =
    found_from c.args.places.now c.args.id _ (c.range.ensures.in_range tt) c.in-Some.first.now _
    c.in-Some.ensures.steps

pub returns-in-None : goal.returns-in-None
returns-in-None c =
    none_from c.args.places.now c.args.id _ (c.range.ensures.in_range tt)
    c.in-None.ensures.steps.0
