use Rattle.std.proofs.Common.{List, sym, subst}
use Rattle.place_rows.specs.Rows.{TimedKnown}
use Rattle.place_turns.specs.Timely.{AreTimelyOpen}
use Rattle.place_turns.proofs.Departures.{nowhere_yet}
use Rattle.place_turns.specs.Trails.{Trail, MayLook}
use Rattle.place_turns.specs.Moving.{IsFed}
use Rattle.place_turns.specs.Places.{places_of, setting_of}
use Rattle.place_turns.proofs.PacketStep.{fed_so, looks_for}
use Rattle.place_turns.proofs.feeding.feed.Goals as goal

pub returns-in-Ok-attempt-clause-moved : goal.returns-in-Ok-attempt-clause-moved
returns-in-Ok-attempt-clause-moved g c =
    subst (λ (t : Trail). IsFed (places_of c.args.turns.now.places.now) (setting_of
    c.args.turns.now.places.now) t
    c.args.packet c.carry.new.passes.trail c.carry.result) c.make_room.ensures.trail
    (fed_so (places_of c.args.turns.now.places.now) (setting_of c.args.turns.now.places.now)
    c.make_room.new.passes.trail c.attempt.new.passes.trail c.carry.new.passes.trail c.args.packet
    c.route-route.result c.in-Ok-attempt.came c.carry.result c.in-Ok-attempt.ensures.lost.0
    c.in-Ok-attempt.ensures.moved c.route-route.ensures.exact c.carry.ensures.carried)

pub returns-in-Err-clause-looked : goal.returns-in-Err-clause-looked
returns-in-Err-clause-looked g c =
    subst (λ (t : Trail). MayLook t c.attempt.new.passes.trail) c.make_room.ensures.trail
    (looks_for (places_of c.args.turns.now.places.now) c.make_room.new.passes.trail.known
    c.attempt.new.passes.trail.known c.make_room.new.passes.trail.lost
    c.attempt.new.passes.trail.lost c.route-route.result c.in-Err.ensures.err
    c.in-Err.ensures.lost.0)

pub returns-in-Ok-attempt-clause-timely : goal.returns-in-Ok-attempt-clause-timely
returns-in-Ok-attempt-clause-timely g c h is =
    c.carry.ensures.timely h c.in-Ok-attempt.ensures.seen
    (c.attempt.ensures.timely h
    (nowhere_yet c.make_room.new.passes.timed c.args.packet.number c.args.packet.visit
    c.requires.new)
    (subst (λ n. AreTimelyOpen n c.make_room.new.passes.timed h) (sym c.make_room.ensures.clock)
    (subst (λ (row : List TimedKnown). AreTimelyOpen c.args.passes.now.clock row h)
    (sym c.make_room.ensures.timed) is)))

pub returns-in-Err-clause-timely : goal.returns-in-Err-clause-timely
returns-in-Err-clause-timely g c h is =
    c.attempt.ensures.timely h
    (nowhere_yet c.make_room.new.passes.timed c.args.packet.number c.args.packet.visit
    c.requires.new)
    (subst (λ n. AreTimelyOpen n c.make_room.new.passes.timed h) (sym c.make_room.ensures.clock)
    (subst (λ (row : List TimedKnown). AreTimelyOpen c.args.passes.now.clock row h)
    (sym c.make_room.ensures.timed) is))
