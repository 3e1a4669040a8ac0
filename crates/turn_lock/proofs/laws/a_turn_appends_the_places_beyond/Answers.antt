use Rattle.turn_lock.proofs.Lists.{places_beyond, beyond_places}
use Rattle.turn_lock.proofs.laws.a_turn_appends_the_places_beyond.Goals as goal

pub returns : goal.returns
returns g c = λ before after k. (
  places_beyond before after k,
  λ h. beyond_places before after k h.0
      h.1,
)
