use Rattle.std.proofs.Common.{ℕ, List, Some, sym, ap, ◌∙◌}
use Rattle.std.proofs.lemmas.Option.{same_Some}
use Rattle.packet_entry.specs.declared.packet.Card.{Card}
use Rattle.queue_core.specs.State.{Bound}
use Rattle.queue_core.specs.Step.{without}
use Rattle.queue_replay.specs.contracts.standing.Standing.{the_view}
use Rattle.queue_replay.proofs.RequestResults.{allowed_is, verdict_leaves}
use Rattle.queue_replay.proofs.requests.verdict.Goals as goal

pub returns-after-take-clause-state : goal.returns-after-take-clause-state
returns-after-take-clause-state c =
    let allowed = c.in-Ok.ensures.allowed c.args.queue.now c.port_of.ensures in λ edit.
    verdict_leaves c.args.queue.now c.args.port c.args.head c.in-Ok.head allowed.0
    (allowed_is c.args.queue.now c.args.port c.args.head c.in-Ok.head allowed.0 allowed.1
    allowed.2 allowed.3 allowed.4) edit
    ∙ ap (λ (b : Bound). Some (without b c.in-Ok.head.id))
    (same_Some allowed.0 c.in-Some.bound (sym allowed.1 ∙ c.in-Some.is) ∙ sym c.bound.view_is)
    ∙ ap (λ (ws : List (ℕ × Card)). Some (the_view (record c.bound.inside { waiting = ws })))
    (sym c.take.ensures.others)
