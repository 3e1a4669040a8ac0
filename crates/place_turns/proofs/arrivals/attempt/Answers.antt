use Rattle.std.proofs.Common.{sym, subst}
use Rattle.packet_entry.specs.declared.packet.Card.{Card}
use Rattle.place_turns.specs.Departures.{HasSeenCome}
use Rattle.place_turns.proofs.Departures.{come_next}
use Rattle.place_turns.specs.Places.{places_of, setting_of}
use Rattle.place_turns.proofs.PacketStep.{arrived_so}
use Rattle.place_turns.proofs.arrivals.attempt.Goals as goal

pub returns-in_ok-placed-in-To-clause-moved : goal.returns-in_ok-placed-in-To-clause-moved
returns-in_ok-placed-in-To-clause-moved g c =
    rw c.in-To.is
    (arrived_so c.an_arrival_leaves_as_its_outcome_says.ensures (places_of
    c.args.turns.now.places.now)
    (setting_of c.args.turns.now.places.now) c.in-To.queue c.in-To.bypass
    c.in-To.table c.args.packet c.args.passes.now.trail.known
    c.arrive.new.self.trail.known c.in_ok-placed-in-To.placed c.stands.result
    (rw c.queued.ensures at c.in_ok-placed-in-To.ensures.turn) c.stands.ensures.stands)

pub returns-in_ok-placed-in-To-clause-timely : goal.returns-in_ok-placed-in-To-clause-timely
returns-in_ok-placed-in-To-clause-timely g c h seen is =
    c.arrive.ensures.timely h
    (subst (λ (p : Card). HasSeenCome c.args.passes.now.timed p.number p.visit)
    (sym c.queued.ensures)
    (come_next c.args.passes.now.timed c.args.packet.number c.args.packet.visit seen)) is

pub returns-in_err-placed-in-To-clause-timely : goal.returns-in_err-placed-in-To-clause-timely
returns-in_err-placed-in-To-clause-timely g c h seen is =
    c.arrive.ensures.timely h
    (subst (λ (p : Card). HasSeenCome c.args.passes.now.timed p.number p.visit)
    (sym c.queued.ensures)
    (come_next c.args.passes.now.timed c.args.packet.number c.args.packet.visit seen)) is
