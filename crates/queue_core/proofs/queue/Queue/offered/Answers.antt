use Rattle.std.proofs.Common.{◌≡◌, None, false, refl, ap, ◌∙◌, arith}
use Rattle.std.proofs.lemmas.Map.Entries.{length-keys_of}
use Rattle.std.specs.Map.{keys_of}
use Rattle.queue_core.specs.Ids.{is_among}
use Rattle.queue_core.specs.WithOffer.{WithOffer}
use Rattle.queue_core.proofs.FreeIds.{fresh_is_free}
use Rattle.queue_core.proofs.WaitingList.{held_offered}
use Rattle.queue_core.proofs.LastOffer.{none_kept, found_last, others_stay, is_last}
use Rattle.queue_core.proofs.queue.Queue.offered.Goals as goal

pub push-requires : goal.push-requires
push-requires c =
    let none : c.self.inside.offer ≡ None = none_kept _ _ c.self.invariant.1
    (ap (λ (w : WithOffer). w.offer) c.self.view_is ∙ c.requires.no_offer) in
    let is = rw none at c.self.invariant.0 in
    let free : is_among (keys_of c.self.inside.waiting) c.fresh_id-id.result ≡ false =
    ap (is_among (keys_of c.self.inside.waiting)) c.fresh_id-id.ensures
    ∙ fresh_is_free c.self.inside.last (keys_of c.self.inside.waiting) (omega arith)
    (omega (arith, length-keys_of c.self.inside.waiting, is.few)) in
    record { free = free }

pub invariant_of-self-2 : goal.invariant_of-self-2
invariant_of-self-2 c =
    let none : c.self.inside.offer ≡ None = none_kept _ _ c.self.invariant.1
    (ap (λ (w : WithOffer). w.offer) c.self.view_is ∙ c.requires.no_offer) in
    let is = rw none at c.self.invariant.0 in
    let free : is_among (keys_of c.self.inside.waiting) c.fresh_id-id.result ≡ false =
    ap (is_among (keys_of c.self.inside.waiting)) c.fresh_id-id.ensures
    ∙ fresh_is_free c.self.inside.last (keys_of c.self.inside.waiting) (omega arith)
    (omega (arith, length-keys_of c.self.inside.waiting, is.few)) in
    let undecided = rw (← c.self.view_is, none) at c.requires.undecided in
    rw (
      c.in_default-push.ensures.ok,
      others_stay c.self.inside.waiting c.fresh_id-id.result c.args.packet free,
      found_last c.self.inside.waiting c.fresh_id-id.result c.args.packet free,
    ) (
      held_offered _ c.fresh_id-id.result c.args.packet (omega arith) is undecided
          c.fresh_id-id.ensures,
      is_last c.self.inside.waiting c.fresh_id-id.result c.args.packet free,
    )

pub returns-clause-begun : goal.returns-clause-begun
returns-clause-begun c =
    let none : c.self.inside.offer ≡ None = none_kept _ _ c.self.invariant.1
    (ap (λ (w : WithOffer). w.offer) c.self.view_is ∙ c.requires.no_offer) in
    let is = rw none at c.self.invariant.0 in
    let free : is_among (keys_of c.self.inside.waiting) c.fresh_id-id.result ≡ false =
    ap (is_among (keys_of c.self.inside.waiting)) c.fresh_id-id.ensures
    ∙ fresh_is_free c.self.inside.last (keys_of c.self.inside.waiting) (omega arith)
    (omega (arith, length-keys_of c.self.inside.waiting, is.few)) in
    let undecided = rw (← c.self.view_is, none) at c.requires.undecided in
    let letter = rw (← c.self.view_is) at c.in-Ok.ensures.letter in
    let fits = rw (← c.self.view_is) at c.in-Ok.ensures.fits in
    rw (
      ← c.self.view_is,
      none,
      c.in_default-push.ensures.ok,
      others_stay c.self.inside.waiting c.fresh_id-id.result c.args.packet free,
      found_last c.self.inside.waiting c.fresh_id-id.result c.args.packet free,
      ← c.fresh_id-id.ensures,
    )
    (undecided, refl, letter, refl, fits)
