use Rattle.std.proofs.Common.{ap, arith, map}
use Rattle.packet_entry.specs.ListWithRoom.{ListWithRoom}
use Rattle.histories.specs.declared.histories.Lost.{Lost}
use Rattle.turn_lock.specs.Passes.{view_of}
use Rattle.place_rows.specs.Rows.{label_at}
use Rattle.place_turns.proofs.AtPlace.{both_passes, same_locks, still_of}
use Rattle.place_turns.proofs.SplitCounts.{Laws, can_add_all, joined_counted}
use Rattle.place_turns.proofs.ToldCounts.{all_placed, all_seen_own}
use Rattle.place_turns.proofs.ToldTimes.{joined_open}
use Rattle.place_turns.proofs.passes.Passes.join.Goals as goal

pub join_row-requires : goal.join_row-requires
join_row-requires c = record {
  passes = both_passes c.rows_know_the_same_without_times.ensures.timed c.args.places.now _
      (rw (← c.self.view_is) at c.requires.of) _ (rw (← c.from.view_is) at c.requires.from_of);
}

pub add_all_counts-requires : goal.add_all_counts-requires
add_all_counts-requires c =
    let laws : Laws =
    record {
      sent = c.joined_rows_have_what_both_had.ensures.sent_at_one;
      ascend = c.merged_places_are_those_of_both.ensures.ascend;
    } in
    let is = rw (← c.self.view_is) at c.requires.of in
    let also = rw (← c.from.view_is) at c.requires.from_of in
    can_add_all laws (label_at c.args.places.now.outlets) _ _ _ _ _
    (all_placed c.self.inside.row.items) (all_placed c.from.inside.row.items) c.self.invariant
    c.from.invariant
    (c.rows_know_the_same_without_times.ensures.joined _ _ _ _ c.join_row.ensures.joined)
    is.known_so also.known_so

pub invariant_of-self : goal.invariant_of-self
invariant_of-self c =
    let laws : Laws =
    record {
      sent = c.joined_rows_have_what_both_had.ensures.sent_at_one;
      ascend = c.merged_places_are_those_of_both.ensures.ascend;
    } in
    joined_counted laws (label_at c.args.places.now.outlets) _ _ _ _ _
    (all_placed c.self.inside.row.items) (all_placed c.from.inside.row.items) c.self.invariant
    c.from.invariant
    (c.rows_know_the_same_without_times.ensures.joined _ _ _ _ c.join_row.ensures.joined)
    c.add_all_counts.new.into.items c.add_all_counts.ensures

pub returns-clause-of : goal.returns-clause-of
returns-clause-of c =
    let laws = c.rows_know_the_same_without_times.ensures in
    still_of laws.timed c.args.places.now _ (rw (← c.self.view_is) at c.requires.of) _
    c.join_row.ensures.passes laws.known

pub returns-clause-joined : goal.returns-clause-joined
returns-clause-joined c =
    rw (← c.self.view_is, ← c.from.view_is)
    (c.rows_know_the_same_without_times.ensures.joined _ _ _ _ c.join_row.ensures.joined)

pub returns-clause-locks : goal.returns-clause-locks
returns-clause-locks c =
    rw (← c.self.view_is)
    (same_locks c.rows_know_the_same_without_times.ensures.timed c.args.places.now _
    (rw (← c.self.view_is) at c.requires.of) _ c.join_row.ensures.passes)

pub returns-clause-lost : goal.returns-clause-lost
returns-clause-lost c =
    rw (← c.self.view_is, ← c.from.view_is) (
      ap (λ (s : ListWithRoom Lost). s.items) c.replace.ensures.after,
      ap (λ (s : ListWithRoom Lost). s.items) c.replace.ensures.value,
    )

pub returns-clause-timely : goal.returns-clause-timely
returns-clause-timely c is too =
    joined_open c.merged_places_are_those_of_both.ensures.places
    (map view_of c.self.inside.row.items) (map view_of c.from.inside.row.items)
    (map view_of c.join_row.new.into.items) c.join_row.ensures.joined
    (all_seen_own c.self.inside.row.items) (all_seen_own c.from.inside.row.items)
    c.self.inside.clock c.from.inside.clock c.max-self-inside.result
    (omega (arith, c.max-self-inside.ensures)) (omega (arith, c.max-self-inside.ensures))
    (rw (← c.self.view_is) at is) (rw (← c.from.view_is) at too)
