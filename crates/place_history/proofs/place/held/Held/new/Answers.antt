use Rattle.std.proofs.Common.{refl}
use Rattle.place_history.proofs.EntryReplay.{replayed_none}
use Rattle.place_history.proofs.place.held.Held.new.Goals as goal

pub returns-clause-replayed : goal.returns-clause-replayed
returns-clause-replayed c =
    replayed_none _ c.new.ensures.empty c.new-2.ensures.items refl refl
