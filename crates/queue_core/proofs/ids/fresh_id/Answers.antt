use Rattle.std.proofs.Common.{length, sym, ◌∙◌, arith}
use Rattle.std.specs.Map.{keys_of}
use Rattle.queue_core.proofs.FreeIds.{look_on}
use Rattle.queue_core.proofs.ids.fresh_id.Goals as goal

pub loop-preserved : goal.loop-preserved
loop-preserved c =
    sym (look_on (length c.args.waiting.now) c.loop.counter c.loop.id
    (keys_of c.args.waiting.now) (omega arith) (sym c.contains.ensures
    ∙ c.if-not-contains.false))
    ∙ c.loop.invariant
