-- A held state that is lent.
use Rattle.std.specs.Borrow.{Lends, MutBor, Fml}
use denote.RattleType.{RattleType}
use Rattle.turn_lock.specs.declared.storied.Storied.{Ghosts}
use Rattle.turn_lock.specs.declared.held.Held.{Held}
use Rattle.turn_lock.specs.contracts.held.Held.{the_row}

module _ (S E : RattleType) (g : Ghosts S.Denot E.Denot) where
  -- the held state ends as what was left behind the reference
  abbrev pub lends_state : MutBor (Held S.Denot E.Denot g) → MutBor S.Denot → Fml
  lends_state held lent = Lends (the_row S E g) S held lent (λ x. record held.now { state = x })
