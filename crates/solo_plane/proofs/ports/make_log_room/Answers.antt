use Rattle.std.proofs.Common.{◌≤◌}
use Rattle.solo_plane.specs.PortView.{port_of}
use Rattle.solo_plane.proofs.Places.{on_ok_so, on_place, unchanged_at_place}
use Rattle.solo_plane.proofs.ports.make_log_room.Goals as goal

pub returns-clause-same : goal.returns-clause-same
returns-clause-same c =
    unchanged_at_place port_of c.args.ports.now.numbers.all.items c.args.ports.now.states.items
    c.args.port c.place_of-place.result
    c.index_mut-state.result.now c.make_room.new.self c.place_of-place.ensures.at
    c.place_of-place.ensures.within
    c.index_mut-state.ensures.value c.make_room.ensures.same

pub returns-clause-ok : goal.returns-clause-ok
returns-clause-ok c =
    on_ok_so c.make_room.result _ _
    (on_place (λ p. 2 ≤ p.dids.room) c.args.ports.now.numbers.all.items
    c.args.ports.now.states.items c.args.port c.place_of-place.result
    c.make_room.new.self c.place_of-place.ensures.at
    c.place_of-place.ensures.within)
    c.make_room.ensures.ok
