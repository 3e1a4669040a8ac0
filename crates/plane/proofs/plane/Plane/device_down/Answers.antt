use Rattle.std.proofs.Common.{List, ◌++◌, sym, subst, ap, refl}
use Rattle.histories.specs.declared.histories.Lost.{Lost}
use Rattle.place_rows.specs.Shares.{IsBalanced}
use Rattle.place_turns.specs.Timely.{feeder}
use Rattle.plane.specs.Past.{fed_by, lost_by}
use Rattle.plane.specs.Planes.{setting_of}
use Rattle.plane.proofs.DeviceBalance.{down_one}
use Rattle.plane.proofs.LockParts.{down_parts}
use Rattle.plane.proofs.plane.Plane.device_down.Goals as goal

pub device_down-requires-clause-of : goal.device_down-requires-clause-of
device_down-requires-clause-of g c = (rw (← c.pass.view_is) at c.requires.pass).of

pub returns-clause-pass : goal.returns-clause-pass
returns-clause-pass g c =
    let is = rw (← c.pass.view_is) at c.requires.pass in
    record {
      of = c.device_down.ensures.of;
      balanced = subst (λ (lost : List Lost). IsBalanced (setting_of c.args.self.now)
          (fed_by c.pass.inside.past ++ c.pass.inside.fed.items)
          c.device_down.new.self.trail.known (lost_by c.pass.inside.past ++ lost))
          (sym c.device_down.ensures.lost.0)
          (down_one c.rows_stay_balanced.ensures.down c.passes_stay_balanced.ensures.looked
          (setting_of c.args.self.now) c.args.device
          (fed_by c.pass.inside.past ++ c.pass.inside.fed.items) _ _ _ _
          c.device_down.result c.device_down.ensures.turn c.device_down.ensures.err is.balanced);
    }

pub returns-clause-same : goal.returns-clause-same
returns-clause-same g c =
    rw (← c.pass.view_is) (
      refl,
      ap (λ (lost : List Lost). lost_by c.pass.inside.past ++ lost)
          c.device_down.ensures.lost.0,
    )

pub returns-clause-parts : goal.returns-clause-parts
returns-clause-parts g c =
    rw (← c.pass.view_is)
    (down_parts c.passes_keep_their_parts.ensures.down c.passes_keep_their_parts.ensures.looked
    c.args.device _ c.pass.inside.passes.trail c.device_down.new.self.trail c.device_down.result
    c.device_down.ensures.lost.0 c.device_down.ensures.turn c.device_down.ensures.err)

pub invariant_of-pass : goal.invariant_of-pass
invariant_of-pass g c =
    (c.pass.invariant.0, c.device_down.ensures.timely feeder c.pass.invariant.1)
