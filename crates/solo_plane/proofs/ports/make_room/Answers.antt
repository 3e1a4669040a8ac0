use Rattle.std.proofs.Common.{◌≡◌, ◌∙◌, ◌<◌, ap, sym, subst, Option, false, true, length}
use Rattle.std.proofs.lemmas.Bool.{ltb-true, ltb-false}
use Rattle.std.proofs.lemmas.Option.{slice_get_past}
use Rattle.std.specs.Prelude.{IsSome}
use Rattle.solo_plane.specs.declared.port.PortState.{PortState}
use Rattle.solo_plane.specs.PortPlaces.{stands_at}
use Rattle.solo_plane.specs.PortView.{port_of, log_in}
use Rattle.solo_plane.proofs.Places.{on_ok_so, on_place, unchanged_at_place}
use Rattle.solo_plane.proofs.ports.make_room.Goals as goal

pub returns-in-Some-get_mut-clause-same : goal.returns-in-Some-get_mut-clause-same
returns-in-Some-get_mut-clause-same c =
    unchanged_at_place port_of c.args.ports.now.numbers.all.items c.args.ports.now.states.items
    c.args.port c.in-Some.place
    c.in-Some-get_mut.state.now c.make_mail_room.new.self
    (sym c.place_of.ensures ∙ c.in-Some.is)
    (ltb-true _ _ (sym c.in-Some-get_mut.ensures.item.0))
    c.in-Some-get_mut.ensures.value c.make_mail_room.ensures.same

pub returns-in-Some-get_mut-clause-logs : goal.returns-in-Some-get_mut-clause-logs
returns-in-Some-get_mut-clause-logs c =
    unchanged_at_place log_in c.args.ports.now.numbers.all.items c.args.ports.now.states.items
    c.args.port c.in-Some.place
    c.in-Some-get_mut.state.now c.make_mail_room.new.self
    (sym c.place_of.ensures ∙ c.in-Some.is)
    (ltb-true _ _ (sym c.in-Some-get_mut.ensures.item.0))
    c.in-Some-get_mut.ensures.value c.make_mail_room.ensures.log

pub returns-in-Some-get_mut-clause-ok : goal.returns-in-Some-get_mut-clause-ok
returns-in-Some-get_mut-clause-ok c =
    on_ok_so c.make_mail_room.result _ _
    (λ room there. on_place (λ p. 0 < p.mailbox.room) c.args.ports.now.numbers.all.items
    c.args.ports.now.states.items c.args.port c.in-Some.place
    c.make_mail_room.new.self
    (sym c.place_of.ensures ∙ c.in-Some.is)
    (ltb-true _ _ (sym c.in-Some-get_mut.ensures.item.0)) room)
    c.make_mail_room.ensures.ok

pub returns-in-None-get_mut-clause-ok : goal.returns-in-None-get_mut-clause-ok
returns-in-None-get_mut-clause-ok c there =
    let states = c.args.ports.now.states.items in
    let none = ap (stands_at states) (sym c.place_of.ensures ∙ c.in-Some.is)
    ∙ slice_get_past states c.in-Some.place
    (ltb-false c.in-Some.place (length states) (sym c.in-None-get_mut.ensures.item.0)) in
    let wrong : false ≡ true = subst (λ (o : Option PortState). IsSome o) none there in
    absurd (cc)
