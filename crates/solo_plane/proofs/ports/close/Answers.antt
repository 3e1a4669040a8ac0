use Rattle.packet_moves.specs.World.{closed}
use Rattle.solo_plane.specs.PortView.{port_of}
use Rattle.solo_plane.proofs.Places.{changed_at_place}
use Rattle.solo_plane.proofs.ports.close.Goals as goal

pub returns : goal.returns
returns c =
    changed_at_place port_of closed c.args.ports.now.numbers.all.items c.args.ports.now.states.items
    c.args.port c.place_of-place.result
    c.index_mut-state.result.now c.close.new.self c.place_of-place.ensures.at
    c.place_of-place.ensures.within
    c.index_mut-state.ensures.value c.close.ensures
