use Rattle.std.proofs.Common.{arith}
use Rattle.locked_place.specs.Views.{senders_of}
use Rattle.locked_place.proofs.PlaceInvariant.{begun}
use Rattle.locked_place.proofs.place.LockedPlace.begin_turn.Goals as goal

pub invariant_of-self : goal.invariant_of-self
invariant_of-self g c =
    let at = c.self.inside in
    begun at.place (senders_of at.senders) at.writer at.stamps at.latest _ c.self.invariant
    (omega (arith, c.max-late.ensures))
