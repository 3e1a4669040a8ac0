use Rattle.std.proofs.Common.{◌≢◌, ◌<◌, ap, sym, subst, ◌∙◌, rules, arith}
use Rattle.mailbox.proofs.LetterCount.{looks_for_room, claims}
use Rattle.mailbox.proofs.mailbox.Mailbox.claim.Goals as goal

pub load-held-requires : goal.load-held-requires
load-held-requires g c =
    let i = c.loop.invariant in (
      search rules,
      search rules,
      looks_for_room _ _ _ _ (ap (λ m. m.0.role.sends) i.2 ∙ c.requires.sends),
    )

pub compare_exchange-found-requires : goal.compare_exchange-found-requires
compare_exchange-found-requires g c =
    let i = c.loop.invariant in
    let e = c.load-held.ensures.2 in
    let ne : c.load-held.result ≢ c.loop.chair.me.0.capacity = search rules in
    let same = e.2 ne in
    let low = e.0 in (
      search rules,
      search rules,
      claims _ _ _ _ c.load-held.result
          (ap (λ m. m.0.role.sends) (same ∙ i.2) ∙ c.requires.sends)
          (subst (λ m. c.load-held.result < m.0.capacity) (sym same) (omega arith)),
    )
