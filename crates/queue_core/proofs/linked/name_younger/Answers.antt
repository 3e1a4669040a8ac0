use Rattle.std.proofs.Common.{refl, sym}
use Rattle.queue_core.specs.Linked.{with_younger}
use Rattle.queue_core.proofs.MapChanges.{through, not_through}
use Rattle.queue_core.proofs.linked.name_younger.Goals as goal

pub returns-in-None-clause-each : goal.returns-in-None-clause-each
returns-in-None-clause-each c = λ id. rw c.in-None.is refl

pub returns-in-Some-get_mut-clause-each : goal.returns-in-Some-get_mut-clause-each
returns-in-Some-get_mut-clause-each c =
    rw c.in-Some.is
    (through c.args.by_id.now
    (c.get_mut.follows.lender (with_younger c.args.younger c.in-Some-get_mut.linked.now))
    c.in-Some.older c.in-Some-get_mut.linked.now (with_younger c.args.younger)
    (sym c.in-Some-get_mut.ensures.value) (c.get_mut.follows.holds _))

pub returns-in_default-clause-each : goal.returns-in_default-clause-each
returns-in_default-clause-each c =
    rw (c.get_mut.follows.holds-at-none, c.in-Some.is)
    (not_through c.args.by_id.now.entries c.in-Some.older (with_younger c.args.younger)
    (sym c.in_default.ensures.value))
