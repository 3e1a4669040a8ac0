use Rattle.plane.proofs.RowParts.{whole_same}
use Rattle.plane.proofs.laws.parts_stay_whole.Goals as goal

pub returns : goal.returns
returns c = whole_same
