-- What a pass has done at its places.
use Rattle.std.specs.Prelude.{◌≡◌, ◌⊎◌, ℕ, List, map}
use Rattle.turn_lock.specs.Parts.{Tree}
use Rattle.histories.specs.declared.entry.Entry.{Entry}
use Rattle.histories.specs.declared.histories.Lost.{Lost}
use Rattle.locked_place.specs.Turns.{LooksOn}
use Rattle.place_rows.specs.Rows.{Known, TurnsOne, IsTurnAt}

-- what a pass knows of each place, and the packets that its calls lost
pub record Trail : Type 0 where
  pub known : List Known
  pub lost : List Lost

-- its part of each place's lock
abbrev pub parts_of : List Known → List Tree
parts_of known = map (λ (v : Known). v.part) known

-- a turn of the pass at one place: it found this list, and left that one
pub record StepsAt (place : ℕ) (old new : Trail) (found then_ : List Entry) : Type 0 where
  pub turn : IsTurnAt place old.known new.known found then_
  pub same : new.lost ≡ old.lost

-- Nothing happened, but at one place the pass may have seen more.
abbrev pub MayLook : Trail → Trail → Type 0
MayLook old new =
    (new ≡ old)
    ⊎ ((new.lost ≡ old.lost) × ((place : ℕ) × TurnsOne place old.known new.known LooksOn))
