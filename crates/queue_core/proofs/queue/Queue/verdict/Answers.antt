use Rattle.std.proofs.Common.{◌≡◌, None, refl, ap, ◌∙◌}
use Rattle.queue_core.specs.WithOffer.{WithOffer}
use Rattle.queue_core.proofs.WaitingList.{held_without}
use Rattle.queue_core.proofs.LastOffer.{none_kept}
use Rattle.queue_core.proofs.queue.Queue.verdict.Goals as goal

pub invariant_of-self-2 : goal.invariant_of-self-2
invariant_of-self-2 c =
    let none : c.self.inside.offer ≡ None = none_kept _ _ c.self.invariant.1
    (ap (λ (w : WithOffer). w.offer) c.self.view_is ∙ c.requires.no_offer) in
    rw (none, c.in_ok-packet.ensures.others)
    (held_without _ c.args.head.id (rw none at c.self.invariant.0) refl, tt)
