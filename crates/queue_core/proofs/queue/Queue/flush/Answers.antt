use Rattle.std.proofs.Common.{◌≡◌, None, refl, ap, ◌∙◌}
use Rattle.queue_core.specs.WithOffer.{WithOffer}
use Rattle.queue_core.proofs.WaitingList.{held_empty}
use Rattle.queue_core.proofs.LastOffer.{none_kept}
use Rattle.queue_core.proofs.queue.Queue.flush.Goals as goal

pub invariant_of-self : goal.invariant_of-self
invariant_of-self c =
    let none : c.self.inside.offer ≡ None = none_kept _ _ c.self.invariant.1
    (ap (λ (w : WithOffer). w.offer) c.self.view_is ∙ c.requires.no_offer) in
    rw (c.destroy_all.ensures, none)
    (held_empty _ c.self.invariant.0.mode c.self.invariant.0.range refl, tt)
