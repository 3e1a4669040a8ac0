use Rattle.std.proofs.Common.{◌++◌, ◌∙◌, ◌&&◌, [], ap, subst, sym, map}
use Rattle.turn_lock.specs.Passes.{view_of}
use Rattle.place_rows.specs.Rows.{label_at}
use Rattle.place_turns.specs.Passes.{PassesView}
use Rattle.place_turns.specs.Timely.{AreTimely, feeder}
use Rattle.plane.specs.Passes.{FeederView}
use Rattle.plane.specs.Past.{lost_by}
use Rattle.plane.specs.Remaining.{AreLeft}
use Rattle.plane.proofs.PlaneEnd.{all_in, both_true, left_so, rows_of_ports, some_where}
use Rattle.plane.proofs.TimelyPorts.{both_timely}
use Rattle.plane.proofs.finish.join_all.Goals as goal

pub join_ports-second-requires : goal.join_ports-second-requires
join_ports-second-requires c =
    let is = rw (← c.feeder.view_is, ← c.passes.view_is) at c.requires.feeder in
    let named = label_at c.args.plane.now.shared.outlets in
    record {
      passes = (
        named,
        record {
          locks_are = is.of.locks_are;
          known = c.rows_know_the_same_without_times.ensures.timed named
              (map view_of c.passes.inside.row.items) is.of.known_so;
        },
        rows_of_ports c.args.plane.now c.args.ports c.requires.ports,
      );
    }

pub join_ports-third-requires : goal.join_ports-third-requires
join_ports-third-requires c =
    let is = rw (← c.feeder.view_is, ← c.passes.view_is) at c.requires.feeder in
    let named = label_at c.args.plane.now.shared.outlets in
    record {
      passes = (
        named,
        c.join_ports-second.ensures.passes named
            (record {
              locks_are = is.of.locks_are;
              known = c.rows_know_the_same_without_times.ensures.timed named
                  (map view_of c.passes.inside.row.items) is.of.known_so;
            }),
        rows_of_ports c.args.plane.now c.args.closed c.requires.closed,
      );
    }

pub returns-clause-joined : goal.returns-clause-joined
returns-clause-joined c =
    all_in c.args.plane.now c.args.feeder c.args.ports c.args.closed c.passes.inside.row.items
    c.join_ports-second.new.into.items c.join_ports-third.new.into.items
    c.rows_know_the_same_without_times.ensures.timed
    c.rows_are_joined_one_by_one.ensures.none c.rows_are_joined_one_by_one.ensures.whole
    c.requires.feeder
    (ap (λ (p : PassesView). p.locks) c.passes.view_is
    ∙ ap (λ (p : FeederView). p.locks) c.feeder.view_is)
    (ap (λ (p : PassesView). p.trail.known) c.passes.view_is
    ∙ ap (λ (p : FeederView). p.trail.known) c.feeder.view_is)
    c.join_ports-second.ensures.passes c.join_ports-third.ensures.passes
    c.join_ports-second.ensures.joined c.join_ports-third.ensures.joined c.requires.whole

pub returns-clause-timely : goal.returns-clause-timely
returns-clause-timely c =
    let first = map view_of c.passes.inside.row.items in
    let all =
    both_timely c.args.ports c.args.closed first (map view_of c.join_ports-second.new.into.items)
    (map view_of c.join_ports-third.new.into.items) c.join_ports-second.ensures.timely
    c.join_ports-third.ensures.timely in
    record {
      first = first;
      same = ap (λ (p : PassesView). p.trail.known) c.passes.view_is
          ∙ ap (λ (p : FeederView). p.trail.known) c.feeder.view_is;
      clock = c.passes.inside.clock;
      timely = subst (λ (p : PassesView). AreTimely p.clock p.timed feeder) (sym c.passes.view_is)
          c.feeder.invariant.1.timely;
      passes = all.passes;
      are = all.are;
      joined = all.joined [] first (c.rows_are_joined_one_by_one.ensures.none_timed first);
    }

pub returns-clause-left : goal.returns-clause-left
returns-clause-left c =
    some_where (AreLeft c.args.feeder (c.args.ports ++ c.args.closed)) _
    c.join_ports-third.new.remains _ c.then_some.ensures
    (λ kept.
    let all = both_true (c.lost_by_feeder-lost.result.1 && c.join_ports-second.result)
    c.join_ports-third.result kept in
    let both = both_true c.lost_by_feeder-lost.result.1 c.join_ports-second.result all.0 in
    left_so c.args.feeder c.args.ports c.args.closed _ _ _ c.new.ensures.items
    c.new-2.ensures.items
    (c.lost_by_feeder-lost.ensures both.0
    ∙ ap (λ (p : PassesView). lost_by c.feeder.inside.past ++ p.trail.lost) c.passes.view_is
    ∙ ap (λ (p : FeederView). p.trail.lost) c.feeder.view_is)
    (c.join_ports-second.ensures.kept both.1) (c.join_ports-third.ensures.kept all.1))
