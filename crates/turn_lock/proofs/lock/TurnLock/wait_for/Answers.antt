use Rattle.std.proofs.Common.{ap, ◌∙◌, rules}
use Rattle.turn_lock.specs.Parts.{void}
use Rattle.turn_lock.proofs.Steps.{looks}
use Rattle.turn_lock.proofs.lock.TurnLock.wait_for.Goals as goal

pub load-requires : goal.load-requires
load-requires g c =
    let i = c.loop.invariant in (
      search rules,
      search rules,
      looks g.S.Storied.entries g.S.Storied.label _ _ _ _ c.args.ticket
          (ap (λ m. void m.0.part) i.2 ∙ c.requires.live)
          (ap (λ m. m.0.turn) i.2 ∙ c.requires.waits),
    )
