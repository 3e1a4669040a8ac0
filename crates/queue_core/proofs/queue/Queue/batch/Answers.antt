use Rattle.std.proofs.Common.{◌≡◌, None, ap, ◌∙◌, refl, arith}
use Rattle.queue_core.specs.WithOffer.{WithOffer}
use Rattle.queue_core.proofs.WaitingList.{held_without_oldest}
use Rattle.queue_core.proofs.Shares.{share_within, share_first}
use Rattle.queue_core.proofs.LastOffer.{none_kept}
use Rattle.queue_core.proofs.HandedPackets.{batch_shares}
use Rattle.queue_core.proofs.queue.Queue.batch.Goals as goal

pub invariant_of-self : goal.invariant_of-self
invariant_of-self c =
    let none : c.self.inside.offer ≡ None = none_kept _ _ c.self.invariant.1
    (ap (λ (w : WithOffer). w.offer) c.self.view_is ∙ c.requires.no_offer) in
    rw (c.hand_out.ensures.waiting, none)
    (held_without_oldest _ c.share_length-count.result (rw none at c.self.invariant.0) refl, tt)

pub returns-clause-step : goal.returns-clause-step
returns-clause-step c =
    let none : c.self.inside.offer ≡ None = none_kept _ _ c.self.invariant.1
    (ap (λ (w : WithOffer). w.offer) c.self.view_is ∙ c.requires.no_offer) in
    λ queue call. rw (
      c.hand_out.ensures.waiting,
      c.share_length-count.ensures,
      ← c.self.view_is,
      none,
    )
    (batch_shares _ c.args.head c.args.mark c.args.priority c.requires.known)

pub hand_out-requires-clause-count : goal.hand_out-requires-clause-count
hand_out-requires-clause-count c =
    omega (
      arith,
      share_within c.self.inside.waiting c.args.head.id,
      c.share_length-count.ensures,
    )

pub overflow_cast-result : goal.overflow_cast-result
overflow_cast-result c =
    let none : c.self.inside.offer ≡ None = none_kept _ _ c.self.invariant.1
    (ap (λ (w : WithOffer). w.offer) c.self.view_is ∙ c.requires.no_offer) in
    let is = rw none at c.self.invariant.0 in
    omega (
      arith,
      share_within c.self.inside.waiting c.args.head.id,
      c.share_length-count.ensures,
      is.few,
    )

pub returns-clause-handed : goal.returns-clause-handed
returns-clause-handed c =
    let none : c.self.inside.offer ≡ None = none_kept _ _ c.self.invariant.1
    (ap (λ (w : WithOffer). w.offer) c.self.view_is ∙ c.requires.no_offer) in
    rw (
      c.hand_out.ensures.out,
      c.reserve.ensures.items,
      c.decision_of-decision.ensures,
      c.share_length-count.ensures,
      share_first c.self.inside.waiting c.args.head.id,
      ← c.self.view_is,
      none,
      ← c.out.view_is,
    ) refl
