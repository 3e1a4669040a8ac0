use Rattle.std.proofs.Common.{ap}
use Rattle.nfq_live.proofs.WorkerSeats.{minds_taken, passes_taken}
use Rattle.nfq_live.proofs.crew.Crew.take_seats.Goals as goal

pub returns-clause-passes : goal.returns-clause-passes
returns-clause-passes c =
    passes_taken c.seat_all.new.seats.items c.args.seats.now.items c.replace-ports.result.items
    c.args.self.now.ports.items c.requires.none c.seat_all.ensures.passes
    (ap (λ v. v.items) c.replace-ports.ensures.value)

pub returns-clause-minds : goal.returns-clause-minds
returns-clause-minds c =
    minds_taken c.seat_all.new.seats.items c.args.seats.now.items c.replace-minds.result.items
    c.args.self.now.minds.items c.requires.none c.seat_all.ensures.minds
    (ap (λ v. v.items) c.replace-minds.ensures.value)
