use Rattle.std.proofs.Common.{rules}
use Rattle.turn_lock.proofs.Steps.{peeks}
use Rattle.turn_lock.proofs.lock.TurnLock.wait_until_free.Goals as goal

pub load-requires : goal.load-requires
load-requires g c = (
  search rules,
  search rules,
  peeks g.S.Storied.entries g.S.Storied.label _ _ _ _ _,
)

pub load-drawn-requires : goal.load-drawn-requires
load-drawn-requires g c = (
  search rules,
  search rules,
  peeks g.S.Storied.entries g.S.Storied.label _ _ _ _ _,
)
