use Rattle.fate_ledger.proofs.IdIndex.{at_front, here, elsewhere, nowhere}
use Rattle.fate_ledger.proofs.indexed_list.place_of.Goals as goal

pub returns-then-oldest-id : goal.returns-then-oldest-id
returns-then-oldest-id c =
    at_front _ _ c.args.id c.requires (c.in-Some.place.now, c.in-Some.field-0-1.now)
    c.in-Some.ensures.first c.if-oldest-id.true

pub returns-then-found-id : goal.returns-then-found-id
returns-then-found-id c =
    here _ _ c.args.id c.requires (c.in-Some-first_from.found, c.in-Some-first_from.place)
    c.in-Some-first_from.ensures c.if-found-id.true

pub returns-else-found-id : goal.returns-else-found-id
returns-else-found-id c =
    elsewhere _ _ c.args.id c.requires (c.in-Some-first_from.found, c.in-Some-first_from.place)
    c.in-Some-first_from.ensures c.if-found-id.false

pub returns-in-None : goal.returns-in-None
returns-in-None c = nowhere _ _ c.args.id c.requires c.in-None.ensures
