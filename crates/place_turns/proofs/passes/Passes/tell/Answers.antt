use Rattle.std.proofs.Common.{subst, arith, map, []}
use Rattle.turn_lock.specs.Passes.{view_of}
use Rattle.place_rows.specs.Meeting.{ToldUpTo}
use Rattle.place_rows.specs.Rows.{known_of}
use Rattle.place_turns.proofs.AtPlace.{both_passes, same_locks, still_of}
use Rattle.place_turns.proofs.ToldCounts.{all_placed, all_seen_own, counted_after}
use Rattle.place_turns.proofs.ToldTimes.{teller_more, teller_late, hearer_more, hearer_late}
use Rattle.place_turns.proofs.LongerViews.{still_timely, still_timely_open}
use Rattle.place_turns.proofs.passes.Passes.tell.Goals as goal

pub tell_row-requires : goal.tell_row-requires
tell_row-requires c = record {
  passes = both_passes c.rows_know_the_same_without_times.ensures.timed c.args.places.now _
      (rw (← c.self.view_is) at c.requires.of) _ (rw (← c.others.view_is) at c.requires.others_of);
}

pub invariant_of-self : goal.invariant_of-self
invariant_of-self c =
    let laws = c.rows_know_the_same_without_times.ensures in
    let told = laws.told _ _ _ _ _ c.tell_row.ensures.told in
    counted_after laws.known laws.timed c.args.places.now _ _ _
    (rw (← c.self.view_is) at c.requires.of) c.tell_row.ensures.from c.self.invariant told.as_many
    (c.telling_changes_nothing_of_ones_own.ensures.teller _ _ _ _ _ told
    (all_placed c.self.inside.row.items))

pub invariant_of-others : goal.invariant_of-others
invariant_of-others c =
    let laws = c.rows_know_the_same_without_times.ensures in
    let told = laws.told _ _ _ _ _ c.tell_row.ensures.told in
    counted_after laws.known laws.timed c.args.places.now _ _ _
    (rw (← c.others.view_is) at c.requires.others_of) c.tell_row.ensures.into c.others.invariant
    told.others_many
    (c.telling_changes_nothing_of_ones_own.ensures.hearer _ _ _ _ _ told
    (all_placed c.others.inside.row.items))

pub returns-clause-of : goal.returns-clause-of
returns-clause-of c =
    let laws = c.rows_know_the_same_without_times.ensures in
    still_of laws.timed c.args.places.now _ (rw (← c.self.view_is) at c.requires.of) _
    c.tell_row.ensures.from laws.known

pub returns-clause-others_of : goal.returns-clause-others_of
returns-clause-others_of c =
    let laws = c.rows_know_the_same_without_times.ensures in
    still_of laws.timed c.args.places.now _ (rw (← c.others.view_is) at c.requires.others_of) _
    c.tell_row.ensures.into laws.known

pub returns-clause-told : goal.returns-clause-told
returns-clause-told c =
    rw (← c.self.view_is, ← c.others.view_is)
    (subst (λ n. ToldUpTo n (known_of (map view_of c.self.inside.row.items))
    (known_of (map view_of c.others.inside.row.items))
    (known_of (map view_of c.tell_row.new.from.items))
    (known_of (map view_of c.tell_row.new.into.items))) c.args.places.now.sized
    (c.rows_know_the_same_without_times.ensures.told _ _ _ _ _ c.tell_row.ensures.told))

pub returns-clause-locks : goal.returns-clause-locks
returns-clause-locks c =
    let timed = c.rows_know_the_same_without_times.ensures.timed in
    rw (← c.self.view_is, ← c.others.view_is) (
      same_locks timed c.args.places.now _ (rw (← c.self.view_is) at c.requires.of) _
          c.tell_row.ensures.from,
      same_locks timed c.args.places.now _ (rw (← c.others.view_is) at c.requires.others_of) _
          c.tell_row.ensures.into,
    )

pub returns-clause-balanced : goal.returns-clause-balanced
returns-clause-balanced c = λ s entered lost is.
    c.telling_changes_nothing_of_ones_own.ensures.tells s [] entered lost _ _ _ _ _
    (c.rows_know_the_same_without_times.ensures.told _ _ _ _ _ c.tell_row.ensures.told)
    (rw (← c.self.view_is) at is)

pub returns-clause-others_balanced : goal.returns-clause-others_balanced
returns-clause-others_balanced c = λ legal s entered lost is.
    c.telling_changes_nothing_of_ones_own.ensures.hears s [] entered lost _ _ _ _ _
    (c.rows_know_the_same_without_times.ensures.told _ _ _ _ _ c.tell_row.ensures.told)
    (rw (← c.self.view_is) at legal) (rw (← c.others.view_is) at is)

pub returns-clause-timely : goal.returns-clause-timely
returns-clause-timely c h is =
    let told = c.tell_row.ensures.told in
    let was = rw (← c.self.view_is) at is in
    let clock = c.self.inside.clock in
    still_timely (map view_of c.self.inside.row.items) (map view_of c.tell_row.new.from.items)
    (teller_more _ _ _ _ _ told (all_seen_own c.self.inside.row.items)) clock clock h (omega arith)
    (teller_late _ _ _ _ _ told clock was.late) was

pub returns-clause-timely_open : goal.returns-clause-timely_open
returns-clause-timely_open c h is =
    let told = c.tell_row.ensures.told in
    let was = rw (← c.self.view_is) at is in
    let clock = c.self.inside.clock in
    still_timely_open (map view_of c.self.inside.row.items) (map view_of c.tell_row.new.from.items)
    (teller_more _ _ _ _ _ told (all_seen_own c.self.inside.row.items)) clock clock h (omega arith)
    (teller_late _ _ _ _ _ told clock was.timely.late) was

pub returns-clause-others_timely : goal.returns-clause-others_timely
returns-clause-others_timely c h by_ is too =
    let told = c.tell_row.ensures.told in
    let was = rw (← c.self.view_is) at is in
    let were = rw (← c.others.view_is) at too in
    let clock = c.others.inside.clock in
    let time = c.max-others-inside.result in
    still_timely (map view_of c.others.inside.row.items) (map view_of c.tell_row.new.into.items)
    (hearer_more _ _ _ _ _ told (all_seen_own c.others.inside.row.items)) clock time by_
    (omega (arith, c.max-others-inside.ensures))
    (hearer_late _ _ _ _ _ told c.self.inside.clock clock time
    (omega (arith, c.max-others-inside.ensures)) (omega (arith, c.max-others-inside.ensures))
    was.late were.late) were

pub returns-clause-others_open : goal.returns-clause-others_open
returns-clause-others_open c h by_ is too =
    let told = c.tell_row.ensures.told in
    let was = rw (← c.self.view_is) at is in
    let were = rw (← c.others.view_is) at too in
    let clock = c.others.inside.clock in
    let time = c.max-others-inside.result in
    still_timely_open (map view_of c.others.inside.row.items) (map view_of
    c.tell_row.new.into.items)
    (hearer_more _ _ _ _ _ told (all_seen_own c.others.inside.row.items)) clock time by_
    (omega (arith, c.max-others-inside.ensures))
    (hearer_late _ _ _ _ _ told c.self.inside.clock clock time
    (omega (arith, c.max-others-inside.ensures)) (omega (arith, c.max-others-inside.ensures))
    was.late were.timely.late) were
