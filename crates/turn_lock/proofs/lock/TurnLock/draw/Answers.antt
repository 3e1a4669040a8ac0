use Rattle.std.proofs.Common.{ap, ◌∙◌, rules}
use Rattle.turn_lock.specs.Parts.{void}
use Rattle.turn_lock.proofs.Steps.{draws}
use Rattle.turn_lock.proofs.lock.TurnLock.draw.Goals as goal

pub compare_exchange-found-requires : goal.compare_exchange-found-requires
compare_exchange-found-requires g c =
    let i = c.loop.invariant in (
      search rules,
      search rules,
      draws g.S.Storied.entries g.S.Storied.label _ _ _ _ c.loop.from
          (ap (λ m. void m.0.part) i.2 ∙ c.requires.live)
          (ap (λ m. m.0.turn) i.2 ∙ c.requires.outside) i.3,
    )
