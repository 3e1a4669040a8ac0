use Rattle.std.proofs.Common.{ℕ, Option, rules, refl, subst}
use Rattle.queue_replay.specs.NumberWalk.{walk_begun, walk_on, walk_done, next_found}
use Rattle.feeder_audit.specs.declared.fed.Fed.{Fed}
use Rattle.feeder_audit.specs.Queues.{IsKeptIn, IsWholeIn, state_in}
use Rattle.feeder_audit.proofs.RowMeaning.{not_both}
use Rattle.feeder_audit.proofs.feeding.are_whole.Goals as goal

pub loop-queue-init : goal.loop-queue-init
loop-queue-init c =
    walk_begun (λ queue. IsWholeIn c.args.downs.now (state_in c.args.queues.now queue)) _ _
    c.into_iter-queue-iterator.ensures.into_iter_gives.0
    c.into_iter-queue-iterator.ensures.into_iter_gives.5

pub is_whole-requires : goal.is_whole-requires
is_whole-requires c =
    let P : ℕ → Option Fed → Type 0 =
    λ queue. IsWholeIn c.args.downs.now (state_in c.args.queues.now queue) in
    subst (IsKeptIn c.args.downs.now)
    (next_found P c.args.feds.entries _ _ (c.in-Some.queue, c.in-Some.fed) c.in-Some.ensures.steps
    c.loop-queue.invariant) (c.requires c.in-Some.queue)

pub loop-queue-preserved : goal.loop-queue-preserved
loop-queue-preserved c =
    let states = state_in c.args.queues.now in
    walk_on (λ queue. IsWholeIn c.args.downs.now (states queue)) c.args.feds.entries _ _
    (c.in-Some.queue, c.in-Some.fed) c.in-Some.ensures.steps
    ((c.is_whole.ensures (states c.in-Some.queue) c.port_at.ensures).0 c.if-not-is_whole.false)
    c.loop-queue.invariant

pub returns-then-not-is_whole : goal.returns-then-not-is_whole
returns-then-not-is_whole c =
    let states = state_in c.args.queues.now in
    let P : ℕ → Option Fed → Type 0 = λ queue. IsWholeIn c.args.downs.now (states queue) in (
      λ is. absurd (not_both _ is refl),
      λ are. absurd (not_both _
          ((c.is_whole.ensures (states c.in-Some.queue) c.port_at.ensures).1
          (subst (P c.in-Some.queue)
          (next_found P c.args.feds.entries _ _ (c.in-Some.queue, c.in-Some.fed)
          c.in-Some.ensures.steps c.loop-queue.invariant) (are c.in-Some.queue)))
          c.if-not-is_whole.true),
    )

pub returns : goal.returns
returns c = (
  λ is. walk_done (λ queue. IsWholeIn c.args.downs.now (state_in c.args.queues.now queue))
      c.args.feds.entries _ (search rules) (λ n. tt) c.loop-queue.invariant,
  λ are. refl,
)
