-- Words of the contracts for what a pass and a held state are.
use Rattle.std.specs.Prelude.{◌≡◌}
use Rattle.turn_lock.specs.declared.view.View.{View}
use Rattle.turn_lock.specs.declared.storied.Storied.{Ghosts}
use Rattle.turn_lock.specs.declared.pass.Pass.{Pass}
use Rattle.turn_lock.specs.declared.held.Held.{Held}
use Rattle.turn_lock.specs.declared.lock.TurnLock.{TurnLock}

module _ {S E : Type 0} {g : Ghosts S E} where
  -- what the pass knows
  abbrev pub view_of : Pass S E g → View E S
  view_of pass = pass.seat.me.0

  -- the pass belongs to this lock
  abbrev pub IsOf : TurnLock S E → Pass S E g → Type 0
  IsOf lock pass = pass.seat.table_id ≡ lock.table.shared.table_id

  -- the pass belongs to the same lock as before
  abbrev pub IsSamePass : Pass S E g → Pass S E g → Type 0
  IsSamePass old new = (new.seat.table_id ≡ old.seat.table_id) × (new.seat.id ≡ old.seat.id)

  -- the state that is held
  abbrev pub state_of : Held S E g → S
  state_of held = held.state

  -- the pass that entered, as it was then
  abbrev pub pass_of : Held S E g → Pass S E g
  pass_of held = held.by.value
