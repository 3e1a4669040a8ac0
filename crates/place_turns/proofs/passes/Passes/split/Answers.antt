use Rattle.std.proofs.Common.{◌∙◌, sym, arith, ap, subst, refl, map, length, List}
use Rattle.std.specs.BTreeMap.{BTreeMap}
use Rattle.turn_lock.specs.Passes.{view_of}
use Rattle.turn_lock.specs.Views.{kept_view}
use Rattle.locked_place.specs.Views.{label_of}
use Rattle.place_rows.specs.Rows.{Known, TimedKnown, known_of, label_at}
use Rattle.place_turns.specs.Counts.{AreCounted, HaveZeros}
use Rattle.place_turns.specs.Timely.{AreTimelyOpen, feeder}
use Rattle.place_turns.proofs.LongerViews.{still_timely_open, kept_more, kept_late, split_open}
use Rattle.place_turns.proofs.ToldCounts.{all_seen_own}
use Rattle.place_turns.proofs.AtPlace.{passes_of, are_of}
use Rattle.place_turns.proofs.PassTurns.{as_many}
use Rattle.place_turns.proofs.SplitCounts.{kept_counted, split_counted}
use Rattle.place_turns.proofs.passes.Passes.split.Goals as goal

pub split_row-requires-clause-room : goal.split_row-requires-clause-room
split_row-requires-clause-room c =
    let are = passes_of c.rows_know_the_same_without_times.ensures.timed c.args.places.now
    c.self.inside.row.items (rw (← c.self.view_is) at c.requires.of) in (
      c.in_ok-row.ensures.items,
      omega (
        arith,
        c.in_ok-row.ensures.capacity,
        c.len.ensures,
        as_many label_of (label_at c.args.places.now.outlets) c.args.places.now.locks.items
            c.self.inside.row.items are,
      ),
    )

pub split_row-requires-clause-passes : goal.split_row-requires-clause-passes
split_row-requires-clause-passes c = (
  label_at c.args.places.now.outlets,
  passes_of c.rows_know_the_same_without_times.ensures.timed c.args.places.now
      c.self.inside.row.items (rw (← c.self.view_is) at c.requires.of),
)

pub invariant_of-self : goal.invariant_of-self
invariant_of-self c =
    subst (λ (known : List Known). AreCounted known c.self.inside.sent.items)
    (sym (ap known_of c.split_row.ensures.kept
    ∙ c.rows_know_the_same_without_times.ensures.kept (map view_of c.self.inside.row.items)))
    (kept_counted (known_of (map view_of c.self.inside.row.items)) c.self.inside.sent.items
    c.self.invariant)

pub invariant_of-result : goal.invariant_of-result
invariant_of-result c =
    subst (λ (known : List Known). AreCounted known c.in_ok-sent.sent.items)
    (sym (ap known_of c.split_row.ensures.made
    ∙ c.rows_know_the_same_without_times.ensures.split (map view_of c.self.inside.row.items)))
    (split_counted (known_of (map view_of c.self.inside.row.items)) c.self.inside.sent.items
    c.in_ok-sent.sent.items c.self.invariant
    (subst (λ (cs : List (BTreeMap _ _)). HaveZeros (length cs) cs c.in_ok-sent.sent.items)
    c.deref.ensures.value c.in_ok-sent.ensures))

pub returns-clause-of : goal.returns-clause-of
returns-clause-of c =
    let laws = c.rows_know_the_same_without_times.ensures in
    are_of laws.known c.args.places.now c.split_row.new.row.items
    (c.split_row.ensures.passes (label_at c.args.places.now.outlets)
    (passes_of laws.timed c.args.places.now c.self.inside.row.items
    (rw (← c.self.view_is) at c.requires.of))).0

pub returns-clause-made_of : goal.returns-clause-made_of
returns-clause-made_of c =
    let laws = c.rows_know_the_same_without_times.ensures in
    are_of laws.known c.args.places.now c.split_row.new.made.items
    (c.split_row.ensures.passes (label_at c.args.places.now.outlets)
    (passes_of laws.timed c.args.places.now c.self.inside.row.items
    (rw (← c.self.view_is) at c.requires.of))).1

pub returns-clause-kept : goal.returns-clause-kept
returns-clause-kept c =
    rw (← c.self.view_is)
    (ap known_of c.split_row.ensures.kept
    ∙ c.rows_know_the_same_without_times.ensures.kept (map view_of c.self.inside.row.items))

pub returns-clause-made : goal.returns-clause-made
returns-clause-made c =
    rw (← c.self.view_is)
    (ap known_of c.split_row.ensures.made
    ∙ c.rows_know_the_same_without_times.ensures.split (map view_of c.self.inside.row.items))

pub returns-clause-same : goal.returns-clause-same
returns-clause-same c =
    let are = passes_of c.rows_know_the_same_without_times.ensures.timed c.args.places.now
    c.self.inside.row.items (rw (← c.self.view_is) at c.requires.of) in
    let both = c.split_row.ensures.passes (label_at c.args.places.now.outlets) are in
    rw (← c.self.view_is) (both.0.locks_are ∙ sym are.locks_are, refl, refl)

pub returns-clause-timely : goal.returns-clause-timely
returns-clause-timely c h is =
    let was = rw (← c.self.view_is) at is in
    let row = map view_of c.self.inside.row.items in
    let placed = all_seen_own c.self.inside.row.items in
    let clock = c.self.inside.clock in
    subst (λ (l : List TimedKnown). AreTimelyOpen clock l h) (sym c.split_row.ensures.kept)
    (still_timely_open row (map kept_view row) (kept_more row placed) clock clock h (omega arith)
    (kept_late row placed clock was.timely.late) was)

pub returns-clause-made_timely : goal.returns-clause-made_timely
returns-clause-made_timely c is =
    let was = rw (← c.self.view_is) at is in
    subst (λ (l : List TimedKnown). AreTimelyOpen c.self.inside.clock l feeder)
    (sym c.split_row.ensures.made)
    (split_open c.self.inside.clock (map view_of c.self.inside.row.items) was.timely.late)
