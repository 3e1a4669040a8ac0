use Rattle.std.proofs.Common.{rules}
use Rattle.turn_lock.proofs.Steps.{passes_at}
use Rattle.turn_lock.proofs.Ends.{inside_served}
use Rattle.turn_lock.proofs.lock.TurnLock.leave.Goals as goal

pub fetch_add-requires : goal.fetch_add-requires
fetch_add-requires g c =
    let p = c.args.pass.now in
    let t = inside_served p.seat.me.0.turn c.requires.held.1 in (
      search rules,
      search rules,
      passes_at g.S.Storied.entries g.S.Storied.label _ _ _ _ _ _ t.0 _ c.args.held.state
          c.exchange-was.ensures.3 p.live t.1 c.requires.begins c.requires.label,
    )
