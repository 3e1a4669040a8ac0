use Rattle.std.proofs.Common.{ap, refl}
use Rattle.place_turns.specs.Passes.{PassesView}
use Rattle.plane.proofs.finish.join_passes.Goals as goal

pub join_row-requires : goal.join_row-requires
join_row-requires c =
    let r = rw (← c.passes.view_is) at c.requires.passes in
    record {
      passes = (
        r.0,
        r.1,
        record {
          locks_are = r.2;
          known = c.rows_know_the_same_without_times.ensures.timed r.0 _ r.3;
        },
      );
    }

pub returns-clause-joined : goal.returns-clause-joined
returns-clause-joined c =
    rw (← c.passes.view_is)
    (c.rows_know_the_same_without_times.ensures.joined 0 _ _ _ c.join_row.ensures.joined)

pub returns-clause-timed : goal.returns-clause-timed
returns-clause-timed c = rw (← c.passes.view_is) c.join_row.ensures.joined

pub returns-clause-known : goal.returns-clause-known
returns-clause-known c = rw (← c.passes.view_is) refl

pub returns-clause-lost : goal.returns-clause-lost
returns-clause-lost c = ap (λ (p : PassesView). p.trail.lost) c.passes.view_is
