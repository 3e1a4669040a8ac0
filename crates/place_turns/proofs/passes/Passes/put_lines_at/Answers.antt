use Rattle.std.proofs.Common.{arith, length, ◌<◌}
use Rattle.std.specs.Prelude.{map}
use Rattle.std.proofs.lemmas.List.{length-map}
use Rattle.turn_lock.specs.Passes.{view_of}
use Rattle.locked_place.specs.Passes.{plain_view_of}
use Rattle.place_rows.specs.Rows.{label_at}
use Rattle.place_turns.specs.Places.{places_of}
use Rattle.place_turns.proofs.AtPlace.{AtPlace, at_place}
use Rattle.place_turns.proofs.ListingLines.{view_there, puts_so}
use Rattle.place_turns.proofs.PassCalls.{look_turn, look_open, look_kept}
use Rattle.place_turns.proofs.Results.{on_ok_mapped}
use Rattle.place_turns.proofs.passes.Passes.put_lines_at.Goals as goal

pub put_lines-requires : goal.put_lines-requires
put_lines-requires g c =
    let at =
    at_place c.rows_know_the_same_without_times.ensures.known
    c.rows_know_the_same_without_times.ensures.timed _ _ _ _ _
    (rw (← c.self.view_is) at c.requires.of)
    (omega (arith, c.requires.there, c.args.places.now.sized)) c.index.ensures
    c.index_mut.ensures.value in
    record { pass = (label_at c.args.places.now.outlets c.args.place, at.of) }

at : (g : _) (c : goal.After-self-1 g) →
    AtPlace c.args.places.now c.self.inside.row.items c.args.place c.index.result.now
    c.index_mut.result.now
at g c =
    at_place c.rows_know_the_same_without_times.ensures.known
    c.rows_know_the_same_without_times.ensures.timed _ _ _ _ _
    (rw (← c.self.view_is) at c.requires.of)
    (omega (arith, c.requires.there, c.args.places.now.sized)) c.index.ensures
    c.index_mut.ensures.value

pub invariant_of-self : goal.invariant_of-self
invariant_of-self g c =
    look_kept (at g c) c.put_lines.new.pass _ _ c.put_lines.ensures.turn
    c.own_entries_grow_by_each_turn.ensures.sent c.self.inside.sent.items c.self.invariant

pub returns-clause-of : goal.returns-clause-of
returns-clause-of g c =
    (at g c).after c.put_lines.new.pass c.put_lines.ensures.part c.put_lines.ensures.pass

pub returns-clause-turn : goal.returns-clause-turn
returns-clause-turn g c =
    rw (← c.self.view_is)
    (look_turn (at g c) c.put_lines.new.pass _ _ c.put_lines.ensures.turn)

pub returns-clause-lines : goal.returns-clause-lines
returns-clause-lines g c =
    let row = c.self.inside.row.items in
    let inside : c.args.place < length (map view_of row) =
    omega (arith, (at g c).inside, length-map row view_of) in
    on_ok_mapped c.put_lines.result _ _ (λ lined.
    puts_so (places_of c.args.places.now) c.args.place _ (plain_view_of c.put_lines.new.pass) _ _
    (view_there row c.args.place c.put_lines.new.pass inside)
    (c.put_lines.ensures.here (label_at c.args.places.now.outlets c.args.place) (at g c).of) lined)
    c.put_lines.ensures.lines

pub returns-clause-timely : goal.returns-clause-timely
returns-clause-timely g c h is =
    look_open (at g c) c.put_lines.new.pass _ _ c.put_lines.ensures.turn h
    (rw (← c.self.view_is) at is)
