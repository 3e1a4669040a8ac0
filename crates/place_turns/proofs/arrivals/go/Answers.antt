use Rattle.std.proofs.Common.{List, [], ◌∷◌, ◌++◌, ap, ◌∙◌}
use Rattle.std.specs.Prelude.{map}
use Rattle.turn_lock.specs.Passes.{view_of}
use Rattle.histories.specs.declared.histories.Lost.{Lost}
use Rattle.place_rows.specs.Rows.{known_of}
use Rattle.place_turns.specs.Places.{places_of, setting_of}
use Rattle.place_turns.proofs.PacketStep.{moved_on, lost_so}
use Rattle.place_turns.proofs.arrivals.go.Goals as goal

pub returns-in-Ok-clause-carried : goal.returns-in-Ok-clause-carried
returns-in-Ok-clause-carried g c memory u f h =
    rw c.in-Some.is
    (moved_on (places_of c.args.turns.now.places.now) (setting_of c.args.turns.now.places.now)
    c.args.passes.now.trail
    c.attempt.new.passes.trail c.args.packet c.in-Some.route c.in-Ok.came c.in-Ok.ensures.lost.0
    c.in-Ok.ensures.moved memory u f h)

pub returns-in-Err-clause-carried : goal.returns-in-Err-clause-carried
returns-in-Err-clause-carried g c memory u f h =
    let there = rw c.lose.ensures.came at h in
    let same = rw (← c.passes.view_is) at c.in-Err.ensures.lost.0 in
    rw c.in-Some.is
    (lost_so (places_of c.args.turns.now.places.now) (setting_of c.args.turns.now.places.now)
    c.args.packet
    c.in-Err.field-0.packet c.in-Some.route c.args.passes.now.trail.known
    (known_of (map view_of c.passes.inside.row.items)) c.args.passes.now.trail.lost
    c.lose.new.lost.items u f
    (rw (← c.passes.view_is) at c.in-Err.ensures.err) c.in-Err.ensures.returned
    (c.lose.ensures.lost ∙ ap (λ (lost : List Lost). lost ++ record {
      number = c.in-Err.field-0.packet.number;
      visit = c.in-Err.field-0.packet.visit;
    } ∷ []) same)
    there.0 there.1)

pub returns-in-Err-clause-timely : goal.returns-in-Err-clause-timely
returns-in-Err-clause-timely g c h seen is =
    let then_ = c.attempt.ensures.timely h seen is in rw (← c.passes.view_is) at then_

pub returns-in-Err-clause-on : goal.returns-in-Err-clause-on
returns-in-Err-clause-on g c = rw (← c.passes.view_is) at c.attempt.ensures.on
