use Rattle.std.proofs.Common.{[], ◌∷◌, ◌++◌}
use Rattle.histories.specs.declared.log.Did.TheVariants.{Sent}
use Rattle.place_turns.specs.Timely.{port_with}
use Rattle.place_turns.proofs.asking.ask.Goals as goal

pub returns-in-Ok-clause-timely : goal.returns-in-Ok-clause-timely
returns-in-Ok-clause-timely g c dids heard words answer is =
    c.hand_on.ensures.timely
    (port_with c.args.port (dids ++ Sent c.args.call words answer ∷ []) heard)
    c.in-Ok.ensures.seen (c.in-Ok.ensures.timely dids heard words answer is)
