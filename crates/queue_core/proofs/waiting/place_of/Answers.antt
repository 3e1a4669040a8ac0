use Rattle.std.proofs.Common.{arith}
use Rattle.queue_core.specs.Few.{place_found}
use Rattle.queue_core.proofs.waiting.place_of.Goals as goal

pub returns-then-w-id : goal.returns-then-w-id
returns-then-w-id c =
    place_found _ _ _ c.in-Some.w.now (omega arith) c.in-Some.ensures.lookup c.if-w-id.true
    c.loop-place.invariant.0 c.loop-place.invariant.1
