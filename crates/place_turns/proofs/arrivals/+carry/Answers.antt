use Rattle.place_turns.proofs.Departures.{sees_further}
use Rattle.place_turns.proofs.arrivals.+carry.Goals as goal

pub returns-in-GoesOn-clause-timely : goal.returns-in-GoesOn-clause-timely
returns-in-GoesOn-clause-timely g left c h seen is =
    c.carry.ensures.timely h c.go-came.ensures.seen
    (c.go-came.ensures.timely h (rw c.in-GoesOn.is at seen) is)

pub returns-in-GoesOn-clause-on : goal.returns-in-GoesOn-clause-on
returns-in-GoesOn-clause-on g left c =
    sees_further c.args.passes.now.timed c.go-came.new.passes.timed c.carry.new.passes.timed
    c.go-came.ensures.on c.carry.ensures.on
