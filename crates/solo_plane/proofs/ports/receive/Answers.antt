use Rattle.std.proofs.Common.{◌≡◌, sym, subst, Option}
use Rattle.packet_moves.specs.World.{received, first_of}
use Rattle.solo_plane.specs.declared.port.PortState.{PortState}
use Rattle.std.specs.Prelude.{option_map, IsSomeAnd}
use Rattle.solo_plane.specs.PortView.{port_of}
use Rattle.solo_plane.proofs.Places.{changed_at_place, unchanged_at_place, stands_here}
use Rattle.solo_plane.proofs.Places.{if_ok_so, on_err_so, on_ok_so}
use Rattle.solo_plane.proofs.ports.receive.Goals as goal

pub returns-clause-ports : goal.returns-clause-ports
returns-clause-ports c =
    on_ok_so c.receive.result _ _
    (changed_at_place port_of received c.args.ports.now.numbers.all.items
    c.args.ports.now.states.items c.args.port c.place_of-place.result
    c.index_mut-state.result.now c.receive.new.self c.place_of-place.ensures.at
    c.place_of-place.ensures.within
    c.index_mut-state.ensures.value)
    c.receive.ensures.port

pub returns-clause-letter : goal.returns-clause-letter
returns-clause-letter c =
    let here = stands_here c.args.ports.now.numbers.all.items c.args.ports.now.states.items
    c.args.port c.place_of-place.result
    c.index_mut-state.result.now c.place_of-place.ensures.at
    c.place_of-place.ensures.within
    c.index_mut-state.ensures.value in
    if_ok_so c.receive.result _ _
    (λ letter is. subst (λ (o : Option PortState).
    IsSomeAnd (option_map port_of o) (λ p. letter ≡ first_of p.letters)) (sym here) is)
    c.receive.ensures.letter

pub returns-clause-err : goal.returns-clause-err
returns-clause-err c =
    on_err_so c.receive.result _ _
    (unchanged_at_place port_of c.args.ports.now.numbers.all.items c.args.ports.now.states.items
    c.args.port c.place_of-place.result
    c.index_mut-state.result.now c.receive.new.self c.place_of-place.ensures.at
    c.place_of-place.ensures.within
    c.index_mut-state.ensures.value)
    c.receive.ensures.err
