use Rattle.std.proofs.Common.{◌∙◌, sym}
use Rattle.queue_core.specs.Few.{taken_older, taken_younger, left_younger}
use Rattle.queue_core.proofs.waiting.Waiting.take.Goals as goal

pub returns-in-Some-remove-clause-packet : goal.returns-in-Some-remove-clause-packet
returns-in-Some-remove-clause-packet c =
    rw (sym c.self.view_is) (taken_older c.args.id c.in-Some.place c.self.inside.few.items
    c.remove.new.self.items c.self.inside.many
    (c.in-Some-remove.field-0-0, c.in-Some-remove.packet) c.in-Some.ensures
    c.in-Some-remove.ensures.value c.in-Some-remove.ensures.items).0

pub returns-in-Some-remove-clause-others : goal.returns-in-Some-remove-clause-others
returns-in-Some-remove-clause-others c =
    rw (sym c.self.view_is) (taken_older c.args.id c.in-Some.place c.self.inside.few.items
    c.remove.new.self.items c.self.inside.many
    (c.in-Some-remove.field-0-0, c.in-Some-remove.packet) c.in-Some.ensures
    c.in-Some-remove.ensures.value c.in-Some-remove.ensures.items).1

pub returns-in-None-clause-packet : goal.returns-in-None-clause-packet
returns-in-None-clause-packet c =
    rw (sym c.self.view_is) (c.take.ensures.packet
    ∙ (taken_younger c.args.id c.self.inside.few.items c.self.inside.many c.in-None.ensures).0)

pub returns-in-None-clause-others : goal.returns-in-None-clause-others
returns-in-None-clause-others c =
    rw (sym c.self.view_is) (left_younger c.take.result c.args.id c.self.inside.few.items
    c.self.inside.many c.take.new.self c.in-None.ensures c.take.ensures.others)
