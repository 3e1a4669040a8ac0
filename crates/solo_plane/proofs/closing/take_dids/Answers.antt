use Rattle.std.proofs.Common.{◌∙◌, sym, refl, length}
use Rattle.std.proofs.lemmas.Bool.{ltb-false}
use Rattle.std.proofs.lemmas.Option.{slice_get_past}
use Rattle.solo_plane.proofs.Places.{state_stays}
use Rattle.solo_plane.proofs.closing.take_dids.Goals as goal

pub returns-in-Some-get_mut-clause-others : goal.returns-in-Some-get_mut-clause-others
returns-in-Some-get_mut-clause-others c q other =
    state_stays c.args.ports.now.numbers.all.items c.args.ports.now.states.items c.args.port
    c.in-Some.place c.take_dids.new.self (sym c.place_of.ensures ∙ c.in-Some.is) q other

pub returns-in-None-get_mut-clause-dids : goal.returns-in-None-get_mut-clause-dids
returns-in-None-get_mut-clause-dids c =
    let states = c.args.ports.now.states.items in
    rw (
      c.new.ensures,
      sym c.place_of.ensures ∙ c.in-Some.is,
      slice_get_past states c.in-Some.place
          (ltb-false c.in-Some.place (length states) (sym c.in-None-get_mut.ensures.item.0)),
    ) refl
