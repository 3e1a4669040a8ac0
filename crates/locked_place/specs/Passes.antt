-- Passes of a lock.
use Rattle.std.specs.Prelude.{◌≡◌, ℕ, Some}
use Rattle.turn_lock.specs.declared.view.View.{View}
use Rattle.turn_lock.specs.declared.view.Turn.TheVariants.{Outside}
use Rattle.turn_lock.specs.declared.storied.Storied.{Ghosts}
use Rattle.turn_lock.specs.declared.pass.Pass.{Pass}
use Rattle.turn_lock.specs.declared.lock.TurnLock.{TurnLock}
use Rattle.turn_lock.specs.Views.{label_of}
use Rattle.turn_lock.specs.Passes.{view_of, IsOf}
use Rattle.locked_place.specs.Times.{plain_view}

module _ {S E : Type 0} {g : Ghosts S E} {L : Type 0} where
  -- the pass belongs to the lock, is outside, and the lock's state has this label
  pub record IsPassOf (label : S → L) (named : L) (lock : TurnLock S E) (pass : Pass S E g) : Type 0
    where
      pub of : IsOf lock pass
      pub outside : (view_of pass).turn ≡ Outside
      pub named_so : label_of label (view_of pass) ≡ Some named

module _ {S E : Type 0} {g : Ghosts S (E × ℕ)} where
  -- what the pass knows, without times
  abbrev pub plain_view_of : Pass S (E × ℕ) g → View E S
  plain_view_of pass = plain_view (view_of pass)
