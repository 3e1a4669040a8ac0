use Rattle.locked_place.proofs.place.LockedPlace.begin_turn.Given as goal

abbrev pub invariant-loop : goal.invariant-loop
invariant-loop g l = Unit {0}
