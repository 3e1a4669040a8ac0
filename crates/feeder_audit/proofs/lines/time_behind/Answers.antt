use Rattle.std.proofs.Common.{◌∙◌}
use Rattle.feeder_audit.proofs.LineTimes.{time_is}
use Rattle.feeder_audit.proofs.lines.time_behind.Goals as goal

pub returns-in-Some : goal.returns-in-Some
returns-in-Some c =
    c.falling_time.ensures
    ∙ time_is c.args.lines c.in-Some.last c.args.time c.args.left.now _ c.in-Some.ensures.0
    c.in-Some.ensures.1 c.requires
