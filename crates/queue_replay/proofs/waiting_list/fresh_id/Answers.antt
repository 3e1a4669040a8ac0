use Rattle.std.proofs.Common.{◌-◌, length, sym, ◌∙◌, arith}
use Rattle.std.specs.Map.{keys_of}
use Rattle.queue_replay.proofs.Ids.{look_ends, look_on}
use Rattle.queue_replay.proofs.waiting_list.fresh_id.Goals as goal

pub loop-preserved : goal.loop-preserved
loop-preserved c =
    sym (look_on (length c.args.waiting.now) c.loop.counter c.loop.id
    (keys_of c.args.waiting.now) (omega arith) (sym c.contains.ensures
    ∙ c.if-not-contains.false))
    ∙ c.loop.invariant

pub returns-then-not-contains-clause-next : goal.returns-then-not-contains-clause-next
returns-then-not-contains-clause-next c =
    sym (look_ends (length c.args.waiting.now - c.loop.counter) c.loop.id
    (keys_of c.args.waiting.now) (sym c.contains.ensures ∙ c.if-not-contains.true))
    ∙ c.loop.invariant
