use Rattle.std.proofs.Common.{◌≡◌, ℕ, List, [], Option, sym, ◌∙◌, subst, rules, true≢false}
use Rattle.std.specs.BTreeMap.{get}
use Rattle.std.specs.Ordering.{nat_cmp}
use Rattle.queue_core.specs.State.{Bound}
use Rattle.queue_replay.specs.Replays.{queue_in}
use Rattle.queue_replay.specs.NumberWalk.{walk_begun, walk_on, walk_done, next_found}
use Rattle.port_audit.specs.Closing.{EndsWell}
use Rattle.port_audit.proofs.ClosedPorts.{EndsWellIn, ends_well, badly_ends, none_bad}
use Rattle.port_audit.proofs.closing.all_end_well.Goals as goal

-- what is found under a queue's number ends well
abbrev Well : List ℕ → List ℕ → ℕ → Option (Option Bound) → Type 0
Well ports closed queue = EndsWellIn ports closed

pub loop-queue-init : goal.loop-queue-init
loop-queue-init c =
    walk_begun (Well c.args.ports.now c.args.closed.now) _ _
    c.into_iter-queue-iterator.ensures.into_iter_gives.0
    c.into_iter-queue-iterator.ensures.into_iter_gives.5

pub returns-then-ends_badly : goal.returns-then-ends_badly
returns-then-ends_badly c =
    let ports = c.args.ports.now in
    let closed = c.args.closed.now in (
      λ h. absurd (true≢false (sym h)),
      λ well. absurd (badly_ends ports closed c.in-Some.state.now
          (sym c.ends_badly.ensures ∙ c.if-ends_badly.true)
          (subst (λ o. EndsWell ports closed (queue_in o))
          (next_found (Well ports closed) c.args.queues.now.entries _ _
          (c.in-Some.queue.now, c.in-Some.state.now) c.in-Some.ensures.steps
          c.loop-queue.invariant)
          (well c.in-Some.queue.now c.is_queue_number.ensures))),
    )

pub loop-queue-preserved : goal.loop-queue-preserved
loop-queue-preserved c =
    walk_on (Well c.args.ports.now c.args.closed.now) c.args.queues.now.entries
    c.loop-queue.queue-iterator c.next.new.self (c.in-Some.queue.now, c.in-Some.state.now)
    c.in-Some.ensures.steps
    (ends_well c.args.ports.now c.args.closed.now c.in-Some.state.now
    (sym c.ends_badly.ensures ∙ c.if-ends_badly.false)) c.loop-queue.invariant

pub returns : goal.returns
returns c =
    let none : c.loop-queue.queue-iterator ≡ [] = search rules in (
      λ h queue short. none_bad c.args.ports.now c.args.closed.now
          (get nat_cmp c.args.queues.now queue)
          (walk_done (Well c.args.ports.now c.args.closed.now) c.args.queues.now.entries
          c.loop-queue.queue-iterator none (λ n. tt) c.loop-queue.invariant queue),
      λ well. search rules,
    )
