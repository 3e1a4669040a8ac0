use Rattle.std.proofs.Common.{◌≡◌, Some, refl, sym, ◌∙◌}
use Rattle.queue_core.specs.Calls.{SettlesArrival}
use Rattle.queue_core.specs.declared.offers.Settled.TheVariants.{Back}
use Rattle.place_history.proofs.QueueStep.{ahead}
use Rattle.place_history.proofs.ArrivalEntries.{Stands, stands, settled_makes, turned_back}
use Rattle.place_history.proofs.place.arrivals.settle.Goals as goal

offer_was : (c : goal.After-arrived-in-Back) → c.args.held.now.offer ≡ Some c.in-Some.arrival
offer_was c = sym c.take.ensures.value ∙ c.in-Some.is

at_queue : (c : goal.After-arrived-in-Back) →
    Stands c.args.held.now c.in-Some.arrival c.settle.ensures.before
at_queue c =
    stands c.args.held.now c.in-Some.arrival c.settle.ensures.before c.requires.replayed
    (offer_was c) c.settle.ensures.was

settled_back : (c : goal.After-arrived-in-Back) →
    SettlesArrival (Back c.in-Back.outcome c.in-Back.packet) c.in-Some.arrival.card c.args.room
    c.settle.ensures.before c.settle.ensures.after
settled_back c = rw ((at_queue c).offer, c.in-Back.is) at c.settle.ensures.by

pub append-requires-in-Back-clause-ahead : goal.append-requires-in-Back-clause-ahead
append-requires-in-Back-clause-ahead c =
    let by = settled_back c in
    rw (c.arrived-in-Back.ensures, c.take.ensures.after)
    (ahead c.args.held.now c.settle.new.queues _ c.requires.replayed
    (rw (offer_was c) refl) (at_queue c).number c.settle.ensures
    (settled_makes c.args.held.now c.in-Some.arrival c.settle.ensures.before
    c.settle.ensures.after c.args.room c.in-Back.outcome _ (at_queue c) by.1 by.3))

pub returns-in-Back-clause-settled : goal.returns-in-Back-clause-settled
returns-in-Back-clause-settled c =
    let was : c.args.held.now.offer ≡ Some c.in-Some.arrival =
    sym c.take.ensures.value ∙ c.in-Some.is in
    let at : Stands c.args.held.now c.in-Some.arrival c.settle.ensures.before =
    stands c.args.held.now c.in-Some.arrival c.settle.ensures.before c.requires.replayed was
    c.settle.ensures.was in
    let by : SettlesArrival (Back c.in-Back.outcome c.in-Back.packet) c.in-Some.arrival.card
    c.args.room c.settle.ensures.before c.settle.ensures.after
    = rw (at.offer, c.in-Back.is) at c.settle.ensures.by in
    rw was
    (turned_back c.args.held.now c.in-Some.arrival c.settle.ensures.before
    c.settle.ensures.after c.args.room c.in-Back.outcome c.in-Back.packet by.2 at by.0 by.3)
