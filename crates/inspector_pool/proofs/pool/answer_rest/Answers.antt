use Rattle.std.proofs.Common.{ap, arith, ◌∙◌}
use Rattle.inspector_pool.proofs.Steps.{takes, finds}
use Rattle.inspector_pool.proofs.Trays.{more_goes}
use Rattle.inspector_pool.proofs.pool.answer_rest.Goals as goal

pub pop_as-requires-clause-fifo : goal.pop_as-requires-clause-fifo
pop_as-requires-clause-fifo g c =
    λ _. takes _ _ (omega (arith, ap (λ v. v.parts) c.loop.invariant.1))

pub pop_as-requires-clause-empty : goal.pop_as-requires-clause-empty
pop_as-requires-clause-empty g c = finds _ _

pub loop-preserved : goal.loop-preserved
loop-preserved g c =
    let m = more_goes c.args.assignment.now _ _ _ _ _ _ _ _ c.in_ok-answer-in-Some-pop_as.field-0
    c.in_ok-push-in-Some-pop_as.ensures.items c.loop.invariant.1
    c.in-Some-pop_as.ensures.rule.0 c.in_ok-answer-in-Some-pop_as.ensures.0
    c.in_ok-answer-in-Some-pop_as.ensures.1 c.loop.invariant.2 in
    (c.pop_as.ensures.same.0.1 ∙ c.loop.invariant.0, m.0, m.1)
