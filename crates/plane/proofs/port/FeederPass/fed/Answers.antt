use Rattle.std.proofs.Common.{◌∙◌}
use Rattle.plane.specs.Past.{fed_by}
use Rattle.plane.proofs.JoinedFeeders.{counted_on}
use Rattle.plane.proofs.port.FeederPass.fed.Goals as goal

pub returns : goal.returns
returns c =
    rw (← c.self.view_is)
    (c.up_to_most.ensures
    ∙ counted_on (fed_by c.self.inside.past) c.self.inside.fed.items
    c.self.inside.fed_before c.len.result c.self.invariant.0.counted c.len.ensures)
