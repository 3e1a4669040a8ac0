use Rattle.std.proofs.Common.{Some, ap, rules}
use Rattle.turn_lock.proofs.Ends.{first_and_rest}
use Rattle.turn_lock.proofs.lock.TurnLock.enter.Goals as goal

pub exchange-requires : goal.exchange-requires
exchange-requires g c =
    let h = c.wait_for.ensures.served in
    (search rules, (Some h.0, first_and_rest _ _ _ (ap (λ m. m.1) h.1)))
