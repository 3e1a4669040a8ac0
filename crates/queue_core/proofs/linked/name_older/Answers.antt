use Rattle.std.proofs.Common.{refl, sym}
use Rattle.queue_core.specs.Linked.{with_older}
use Rattle.queue_core.proofs.MapChanges.{through, not_through}
use Rattle.queue_core.proofs.linked.name_older.Goals as goal

pub returns-in-None-clause-each : goal.returns-in-None-clause-each
returns-in-None-clause-each c = λ id. rw c.in-None.is refl

pub returns-in-Some-get_mut-clause-each : goal.returns-in-Some-get_mut-clause-each
returns-in-Some-get_mut-clause-each c =
    rw c.in-Some.is
    (through c.args.by_id.now
    (c.get_mut.follows.lender (with_older c.args.older c.in-Some-get_mut.linked.now))
    c.in-Some.younger c.in-Some-get_mut.linked.now (with_older c.args.older)
    (sym c.in-Some-get_mut.ensures.value) (c.get_mut.follows.holds _))

pub returns-in_default-clause-each : goal.returns-in_default-clause-each
returns-in_default-clause-each c =
    rw (c.get_mut.follows.holds-at-none, c.in-Some.is)
    (not_through c.args.by_id.now.entries c.in-Some.younger (with_older c.args.older)
    (sym c.in_default.ensures.value))
