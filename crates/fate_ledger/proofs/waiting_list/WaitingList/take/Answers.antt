use Rattle.std.proofs.Common.{◌++◌, ◌∙◌, sym, ap}
use Rattle.fate_ledger.specs.Following.{Waiting}
use Rattle.queue_core.specs.Few.{taken_older, taken_younger}
use Rattle.fate_ledger.proofs.waiting_list.WaitingList.take.Goals as goal

pub returns-then-is_oldest-clause-found : goal.returns-then-is_oldest-clause-found
returns-then-is_oldest-clause-found c =
    rw (sym c.self.view_is) (taken_older c.args.id 0 c.self.inside.few.items
    c.pop_front.new.self.items c.self.inside.many (c.in-Some.field-0-0, c.in-Some.card)
    (c.is_oldest.ensures c.if-is_oldest.true) c.in-Some.ensures.lookup c.in-Some.ensures.rest).0

pub returns-then-is_oldest-clause-others : goal.returns-then-is_oldest-clause-others
returns-then-is_oldest-clause-others c =
    rw (sym c.self.view_is) (taken_older c.args.id 0 c.self.inside.few.items
    c.pop_front.new.self.items c.self.inside.many (c.in-Some.field-0-0, c.in-Some.card)
    (c.is_oldest.ensures c.if-is_oldest.true) c.in-Some.ensures.lookup c.in-Some.ensures.rest).1

pub returns-in-Some-remove-clause-found : goal.returns-in-Some-remove-clause-found
returns-in-Some-remove-clause-found c =
    rw (sym c.self.view_is) (taken_older c.args.id c.in-Some-place_of.place c.self.inside.few.items
    c.remove.new.self.items c.self.inside.many
    (c.in-Some-remove.field-0-0, c.in-Some-remove.card) c.in-Some-place_of.ensures
    c.in-Some-remove.ensures.value c.in-Some-remove.ensures.items).0

pub returns-in-Some-remove-clause-others : goal.returns-in-Some-remove-clause-others
returns-in-Some-remove-clause-others c =
    rw (sym c.self.view_is) (taken_older c.args.id c.in-Some-place_of.place c.self.inside.few.items
    c.remove.new.self.items c.self.inside.many
    (c.in-Some-remove.field-0-0, c.in-Some-remove.card) c.in-Some-place_of.ensures
    c.in-Some-remove.ensures.value c.in-Some-remove.ensures.items).1

pub returns-in-None-clause-found : goal.returns-in-None-clause-found
returns-in-None-clause-found c =
    rw (sym c.self.view_is) (c.take.ensures.found
    ∙ (taken_younger c.args.id c.self.inside.few.items c.self.inside.many c.in-None.ensures).0)

pub returns-in-None-clause-others : goal.returns-in-None-clause-others
returns-in-None-clause-others c =
    rw (sym c.self.view_is) (ap (λ (zs : Waiting). c.self.inside.few.items ++ zs)
    c.take.ensures.others
    ∙ (taken_younger c.args.id c.self.inside.few.items c.self.inside.many c.in-None.ensures).1)
