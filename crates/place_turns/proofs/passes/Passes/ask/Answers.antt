use Rattle.std.proofs.Common.{sym}
use Rattle.place_rows.specs.Rows.{label_at}
use Rattle.place_turns.specs.Places.{places_of}
use Rattle.place_turns.proofs.AtPlace.{AtPlace, at_place}
use Rattle.place_turns.proofs.Labels.{outlets_are, sender_there}
use Rattle.place_turns.proofs.PassCalls.{look_turn, look_open, look_kept, request_turn}
use Rattle.place_turns.proofs.PassCalls.{request_handed, request_open, request_kept}
use Rattle.place_turns.proofs.Results.{ok_mapped, ok_on, err_mapped, either_way}
use Rattle.place_turns.proofs.passes.Passes.ask.Goals as goal

pub ask-requires-clause-pass : goal.ask-requires-clause-pass
ask-requires-clause-pass g c κs within =
    let at =
    at_place c.rows_know_the_same_without_times.ensures.known
    c.rows_know_the_same_without_times.ensures.timed _ _ _ _ _
    (rw (← c.self.view_is) at c.requires.of) c.place_of-place.ensures.there c.index.ensures
    c.index_mut.ensures.value in (
      label_at c.args.turns.now.places.now.outlets c.place_of-place.result,
      at.of,
      sym (rw c.queue_of.ensures at c.place_of-place.ensures.value),
      sender_there (places_of c.args.turns.now.places.now) c.place_of-place.result _
          c.requires.port,
      outlets_are c.args.turns.now.places.now.outlets c.place_of-place.result,
    )

at : (g : _) (c : goal.After-self-1 g) →
    AtPlace c.args.turns.now.places.now c.self.inside.row.items c.place_of-place.result
    c.index.result.now c.index_mut.result.now
at g c =
    at_place c.rows_know_the_same_without_times.ensures.known
    c.rows_know_the_same_without_times.ensures.timed _ _ _ _ _
    (rw (← c.self.view_is) at c.requires.of)
    c.place_of-place.ensures.there c.index.ensures c.index_mut.ensures.value

pub invariant_of-self : goal.invariant_of-self
invariant_of-self g c =
    let grows = c.own_entries_grow_by_each_turn.ensures.sent in
    let counts = c.self.inside.sent.items in
    either_way c.ask.result _ _ _ c.ask.ensures.turn c.ask.ensures.err
    (λ errno turn. request_kept (at g c) c.ask.new.pass _ _ c.args.port c.args.call c.args.request
    errno c.ask.new.handed.items turn grows c.ask.ensures.short counts c.self.invariant)
    (λ turn. look_kept (at g c) c.ask.new.pass _ _ turn.0 grows counts c.self.invariant)

pub returns-clause-of : goal.returns-clause-of
returns-clause-of g c =
    (at g c).after c.ask.new.pass c.ask.ensures.part c.ask.ensures.pass

pub returns-clause-turn : goal.returns-clause-turn
returns-clause-turn g c =
    let at_queue = rw c.queue_of.ensures at c.place_of-place.ensures.value in
    rw (← at_queue, ← c.self.view_is)
    (ok_mapped c.ask.result _ _ (λ errno turn. request_turn (at g c) c.ask.new.pass _ _ c.args.port
    c.args.call c.args.request errno c.ask.new.handed.items turn) c.ask.ensures.turn)

pub returns-clause-err : goal.returns-clause-err
returns-clause-err g c =
    let at_queue = rw c.queue_of.ensures at c.place_of-place.ensures.value in
    rw (← at_queue, ← c.self.view_is)
    (err_mapped c.ask.result _ _ (λ turn. look_turn (at g c) c.ask.new.pass _ _ turn.0)
    c.ask.ensures.err)

pub returns-clause-timely : goal.returns-clause-timely
returns-clause-timely g c =
    rw (← c.self.view_is)
    (ok_on c.ask.result _ _ (λ errno turn. request_open (at g c) c.ask.new.pass _ _ c.args.port
    c.args.call c.args.request errno c.ask.new.handed.items turn) c.ask.ensures.turn)

pub returns-clause-seen : goal.returns-clause-seen
returns-clause-seen g c =
    ok_on c.ask.result _ _ (λ errno turn. request_handed (at g c) c.ask.new.pass _ _ c.args.port
    c.args.call c.args.request errno c.ask.new.handed.items turn) c.ask.ensures.turn

pub returns-clause-still : goal.returns-clause-still
returns-clause-still g c =
    rw (← c.self.view_is)
    (err_mapped c.ask.result _ _ (λ turn. look_open (at g c) c.ask.new.pass _ _ turn.0)
    c.ask.ensures.err)
