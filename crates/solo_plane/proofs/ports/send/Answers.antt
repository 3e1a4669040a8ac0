use Rattle.std.proofs.Common.{◌∙◌, ap, sym, Option}
use Rattle.packet_moves.specs.World.{having_done}
use Rattle.packet_moves.specs.Messages.{call_at}
use Rattle.histories.specs.declared.log.Did.TheVariants.{Sent}
use Rattle.solo_plane.specs.declared.port.PortState.{PortState}
use Rattle.std.specs.Prelude.{option_map}
use Rattle.solo_plane.specs.PortView.{port_of, ports_of}
use Rattle.solo_plane.proofs.Places.{changed_at_place, stands_here}
use Rattle.solo_plane.proofs.ports.send.Goals as goal

pub returns : goal.returns
returns c =
    let here = stands_here c.args.ports.now.numbers.all.items c.args.ports.now.states.items
    c.args.port c.place_of-place.result
    c.index_mut-state.result.now c.place_of-place.ensures.at
    c.place_of-place.ensures.within
    c.index_mut-state.ensures.value in
    changed_at_place port_of
    (having_done (Sent (call_at (ports_of c.args.ports.now c.args.port)) c.args.ask c.args.answer))
    c.args.ports.now.numbers.all.items c.args.ports.now.states.items
    c.args.port c.place_of-place.result
    c.index_mut-state.result.now c.send.new.self c.place_of-place.ensures.at
    c.place_of-place.ensures.within
    c.index_mut-state.ensures.value (c.send.ensures
    ∙ ap (λ (o : Option PortState).
    having_done (Sent (call_at (option_map port_of o)) c.args.ask c.args.answer)
    (port_of c.index_mut-state.result.now)) (sym here))
