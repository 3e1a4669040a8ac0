use Rattle.packet_moves.specs.World.{delivered}
use Rattle.solo_plane.specs.PortView.{port_of, log_in}
use Rattle.solo_plane.proofs.Places.{changed_at_place, unchanged_at_place}
use Rattle.solo_plane.proofs.ports.deliver.Goals as goal

pub returns-clause-ports : goal.returns-clause-ports
returns-clause-ports c =
    changed_at_place port_of (delivered c.args.letter)
    c.args.ports.now.numbers.all.items
    c.args.ports.now.states.items c.args.port c.place_of-place.result
    c.index_mut-state.result.now c.deliver.new.self c.place_of-place.ensures.at
    c.place_of-place.ensures.within
    c.index_mut-state.ensures.value c.deliver.ensures.port

pub returns-clause-logs : goal.returns-clause-logs
returns-clause-logs c =
    unchanged_at_place log_in c.args.ports.now.numbers.all.items c.args.ports.now.states.items
    c.args.port c.place_of-place.result
    c.index_mut-state.result.now c.deliver.new.self c.place_of-place.ensures.at
    c.place_of-place.ensures.within
    c.index_mut-state.ensures.value c.deliver.ensures.log
