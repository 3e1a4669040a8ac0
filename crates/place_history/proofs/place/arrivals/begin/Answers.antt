use Rattle.std.proofs.Common.{ap, ◌∙◌, [], ◌∷◌, ◌++◌, ◌≤◌, ◌<◌}
use Rattle.packet_entry.specs.Numbers.{last_visit}
use Rattle.queue_core.specs.Calls.{BeginsArrival}
use Rattle.queue_core.specs.declared.offers.Begun.TheVariants as begun
use Rattle.histories.specs.Numbers.{queue_count}
use Rattle.place_history.specs.Changes.{Changes}
use Rattle.place_history.proofs.QueueStep.{ahead}
use Rattle.place_history.proofs.ArrivalEntries.{turned_away, tells_back, at_absent}
use Rattle.place_history.proofs.place.arrivals.begin.Goals as goal

pub turn_away-requires-in-Err-clause-outside : goal.turn_away-requires-in-Err-clause-outside
turn_away-requires-in-Err-clause-outside c =
    at_absent c.args.held.now c.args.arrival c.at_no_queue-outcome.result c.requires.replayed
    c.in-Err.ensures.absent c.if-arrival-eq-MAX_VISITS.false c.at_no_queue-outcome.ensures

pub append-requires-clause-ahead : goal.append-requires-clause-ahead
append-requires-clause-ahead c =
    let number : c.args.arrival.queue < queue_count = search in
    let first : 1 ≤ c.args.arrival.card.visit = rw c.requires.same c.requires.visited in
    let last : c.args.arrival.card.visit ≤ last_visit = rw c.requires.same c.requires.in_time in
    let changes : Changes c.args.held.now.queues c.begin.new.queues c.args.arrival.queue
    (λ old new. BeginsArrival (begun.Back c.in-Ok-Back.outcome c.in-Ok-Back.packet)
    c.args.arrival.queue c.args.packet old new)
    = rw (c.in-Ok-Back.is, c.in-Ok-Back.field-0-is) at c.in-Ok.ensures.begun in
    rw (c.arrived.ensures, c.requires.no_offer)
    (ahead c.args.held.now c.begin.new.queues _ c.requires.replayed
    (rw c.requires.no_offer tt) number changes
    (turned_away c.args.held.now c.begin.new.queues c.args.arrival c.args.packet
    c.in-Ok-Back.outcome c.in-Ok-Back.packet c.requires.same first last
    c.if-arrival-eq-MAX_VISITS.false changes))

pub returns-in-Ok-Back-clause-begun : goal.returns-in-Ok-Back-clause-begun
returns-in-Ok-Back-clause-begun c =
    let changes : Changes c.args.held.now.queues c.begin.new.queues c.args.arrival.queue
    (λ old new. BeginsArrival (begun.Back c.in-Ok-Back.outcome c.in-Ok-Back.packet)
    c.args.arrival.queue c.args.packet old new)
    = rw (c.in-Ok-Back.is, c.in-Ok-Back.field-0-is) at c.in-Ok.ensures.begun in
    (tells_back c.args.held.now c.begin.new.queues c.args.arrival c.args.packet
    c.in-Ok-Back.outcome c.in-Ok-Back.packet c.requires.replayed c.requires.same
    c.if-arrival-eq-MAX_VISITS.false changes).tells

pub returns-in-Ok-Back-clause-after : goal.returns-in-Ok-Back-clause-after
returns-in-Ok-Back-clause-after c =
    let changes : Changes c.args.held.now.queues c.begin.new.queues c.args.arrival.queue
    (λ old new. BeginsArrival (begun.Back c.in-Ok-Back.outcome c.in-Ok-Back.packet)
    c.args.arrival.queue c.args.packet old new)
    = rw (c.in-Ok-Back.is, c.in-Ok-Back.field-0-is) at c.in-Ok.ensures.begun in
    let told = tells_back c.args.held.now c.begin.new.queues c.args.arrival c.args.packet
    c.in-Ok-Back.outcome c.in-Ok-Back.packet c.requires.replayed c.requires.same
    c.if-arrival-eq-MAX_VISITS.false changes in (
      c.append.ensures.entries ∙ ap (λ e. c.args.held.now.entries.items ++ e ∷ [])
          (c.arrived.ensures ∙ told.entry),
      c.append.ensures.no_offer,
    )
