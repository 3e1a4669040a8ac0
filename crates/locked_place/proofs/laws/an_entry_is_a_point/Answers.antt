use Rattle.locked_place.proofs.EntryPoints.{points_on}
use Rattle.locked_place.proofs.laws.an_entry_is_a_point.Goals as goal

pub returns : goal.returns
returns c = points_on
