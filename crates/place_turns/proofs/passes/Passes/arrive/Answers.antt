use Rattle.std.proofs.Common.{sym}
use Rattle.histories.specs.Journeys.{Arrival}
use Rattle.place_rows.specs.Rows.{label_at}
use Rattle.place_turns.proofs.AtPlace.{AtPlace, at_place}
use Rattle.place_turns.proofs.Labels.{outlets_are}
use Rattle.place_turns.proofs.PassCalls.{look_turn, look_on, look_open, arrival_turn, arrival_on}
use Rattle.place_turns.proofs.PassCalls.{arrival_back, arrival_open, notice_fits, arrival_kept}
use Rattle.place_turns.proofs.Results.{ok_mapped, err_mapped, either_way}
use Rattle.place_turns.proofs.RowCounts.{counted_there}
use Rattle.place_turns.proofs.passes.Passes.arrive.Goals as goal

pub arrive-arrived-requires-clause-pass : goal.arrive-arrived-requires-clause-pass
arrive-arrived-requires-clause-pass g c κs within =
    let at =
    at_place c.rows_know_the_same_without_times.ensures.known
    c.rows_know_the_same_without_times.ensures.timed _ _ _ _ _
    (rw (← c.self.view_is) at c.requires.of) c.place_of-place.ensures.there c.index.ensures
    c.index_mut.ensures.value in (
      label_at c.args.turns.now.places.now.outlets c.place_of-place.result,
      at.of,
      sym c.place_of-place.ensures.value,
      outlets_are c.args.turns.now.places.now.outlets c.place_of-place.result,
    )

pub count_notice-requires : goal.count_notice-requires
count_notice-requires g c =
    let at =
    at_place c.rows_know_the_same_without_times.ensures.known
    c.rows_know_the_same_without_times.ensures.timed _ _ _ _ _
    (rw (← c.self.view_is) at c.requires.of) c.place_of-place.ensures.there c.index.ensures
    c.index_mut.ensures.value in
    record {
      fits = notice_fits at c.arrive-arrived.new.pass _ _
          c.own_entries_grow_by_each_turn.ensures.sent _ c.arrive-arrived.result
          c.arrive-arrived.ensures.turn
          (c.arrive-arrived.ensures.sender
          (label_at c.args.turns.now.places.now.outlets c.place_of-place.result) at.of)
          c.arrive-arrived.ensures.short c.index_mut-2.result.now
          (counted_there c.self.inside.row.items c.self.inside.sent.items c.place_of-place.result
          c.self.invariant at.inside c.index_mut.result.now c.index_mut-2.result.now at.has
          c.index_mut-2.ensures.value);
    }

at : (g : _) (c : goal.After-self-2-1 g) →
    AtPlace c.args.turns.now.places.now c.self.inside.row.items c.place_of-place.result
    c.index.result.now c.index_mut.result.now
at g c =
    at_place c.rows_know_the_same_without_times.ensures.known
    c.rows_know_the_same_without_times.ensures.timed _ _ _ _ _
    (rw (← c.self.view_is) at c.requires.of)
    c.place_of-place.ensures.there c.index.ensures c.index_mut.ensures.value

abbrev arrival : (g : _) (c : goal.After-self-2-1 g) → Arrival
arrival g c = record { queue = c.args.queue; card = c.args.packet; bypass = c.args.bypass }

pub invariant_of-self : goal.invariant_of-self
invariant_of-self g c =
    arrival_kept (at g c) c.arrive-arrived.new.pass _ _
    c.own_entries_grow_by_each_turn.ensures.sent c.replies_tell_how_many_left.ensures
    (arrival g c) c.arrive-arrived.result c.arrive-arrived.ensures.turn
    c.arrive-arrived.ensures.err
    (c.arrive-arrived.ensures.sender
    (label_at c.args.turns.now.places.now.outlets c.place_of-place.result) (at g c).of)
    c.arrive-arrived.ensures.short c.self.inside.sent.items c.self.invariant
    c.index_mut-2.result.now c.count_notice.new.sent c.index_mut-2.ensures.value
    c.count_notice.ensures.counted c.count_notice.ensures.err

pub returns-clause-of : goal.returns-clause-of
returns-clause-of g c =
    (at g c).after c.arrive-arrived.new.pass c.arrive-arrived.ensures.part
    c.arrive-arrived.ensures.pass

pub returns-clause-turn : goal.returns-clause-turn
returns-clause-turn g c =
    rw (← c.place_of-place.ensures.value, ← c.self.view_is)
    (ok_mapped c.arrive-arrived.result _ _ (λ placed turn.
    arrival_turn (at g c) c.arrive-arrived.new.pass _ _ (arrival g c) placed turn)
    c.arrive-arrived.ensures.turn)

pub returns-clause-err : goal.returns-clause-err
returns-clause-err g c =
    rw (← c.place_of-place.ensures.value, ← c.self.view_is)
    (err_mapped c.arrive-arrived.result _ _
    (λ turn. look_turn (at g c) c.arrive-arrived.new.pass _ _ turn) c.arrive-arrived.ensures.err)

pub returns-clause-timely : goal.returns-clause-timely
returns-clause-timely g c h seen is =
    let was = rw (← c.self.view_is) at is in
    let left = rw (← c.self.view_is) at seen in
    either_way c.arrive-arrived.result _ _ _ c.arrive-arrived.ensures.turn
    c.arrive-arrived.ensures.err
    (λ placed turn. arrival_open (at g c) c.arrive-arrived.new.pass _ _ (arrival g c) placed turn h
    left was)
    (λ turn. look_open (at g c) c.arrive-arrived.new.pass _ _ turn h was)

pub returns-clause-seen : goal.returns-clause-seen
returns-clause-seen g c =
    ok_mapped c.arrive-arrived.result _ _ (λ placed turn.
    arrival_back (at g c) c.arrive-arrived.new.pass _ _ (arrival g c) placed turn)
    c.arrive-arrived.ensures.turn

pub returns-clause-on : goal.returns-clause-on
returns-clause-on g c =
    rw (← c.self.view_is)
    (either_way c.arrive-arrived.result _ _ _ c.arrive-arrived.ensures.turn
    c.arrive-arrived.ensures.err
    (λ placed turn. arrival_on (at g c) c.arrive-arrived.new.pass _ _ (arrival g c) placed turn)
    (λ turn. look_on (at g c) c.arrive-arrived.new.pass _ _ turn))
