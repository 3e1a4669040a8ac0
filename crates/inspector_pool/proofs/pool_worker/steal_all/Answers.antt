use Rattle.std.proofs.Common.{arith, ap, ◌∙◌, []}
use Rattle.inspector_pool.proofs.Steps.{takes}
use Rattle.inspector_pool.proofs.Trays.{more_goes}
use Rattle.inspector_pool.proofs.pool_worker.steal_all.Goals as goal

pub steal_as-requires-clause-takes : goal.steal_as-requires-clause-takes
steal_as-requires-clause-takes g c =
    takes _ _ (omega (arith, ap (λ v. v.parts) c.loop.invariant.1))

pub loop-preserved-in_ok-push-in-Success : goal.loop-preserved-in_ok-push-in-Success
loop-preserved-in_ok-push-in-Success g c =
    let i = c.loop.invariant in
    let s = c.steal_as.ensures.same in
    let m = more_goes c.args.assignment.now _ _ _ _ _ [] _ _ c.in_ok-answer-in-Success.field-0
    c.in_ok-push-in-Success.ensures.items i.1 c.in-Success.ensures.rule.0
    c.in_ok-answer-in-Success.ensures.0 c.in_ok-answer-in-Success.ensures.1 i.2 in
    ((s.0 ∙ i.0.0, s.1 ∙ i.0.1, s.3, s.4), m.0, m.1)
