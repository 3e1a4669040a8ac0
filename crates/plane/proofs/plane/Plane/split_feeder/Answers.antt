use Rattle.std.proofs.Common.{◌∙◌, sym, ap, refl, subst, List, ◌++◌}
use Rattle.packet_entry.specs.declared.packet.Card.{Card}
use Rattle.histories.specs.declared.histories.Lost.{Lost}
use Rattle.place_rows.specs.Rows.{label_at}
use Rattle.place_rows.specs.Shares.{IsBalanced}
use Rattle.place_turns.specs.Timely.{feeder}
use Rattle.plane.specs.Past.{lost_by}
use Rattle.plane.specs.Planes.{setting_of}
use Rattle.plane.proofs.FeederPasses.{kept_so, made_so, split_so}
use Rattle.plane.proofs.plane.Plane.split_feeder.Goals as goal

pub split-requires : goal.split-requires
split-requires c = record { of = (rw (← c.pass.view_is) at c.requires.pass).of }

pub returns-clause-pass : goal.returns-clause-pass
returns-clause-pass c =
    let is = rw (← c.pass.view_is) at c.requires.pass in
    record {
      of = c.split.ensures.of;
      balanced = kept_so c.splitting_changes_nothing_of_ones_own.ensures.keeps
          (setting_of c.args.self.now) _ (lost_by c.pass.inside.past)
          c.pass.inside.passes.trail c.split.new.self.trail c.in_ok-passes.ensures.kept
          c.split.ensures.same.1 is.balanced;
    }

pub returns-clause-made : goal.returns-clause-made
returns-clause-made c =
    let is = rw (← c.pass.view_is) at c.requires.pass in
    record {
      of = c.in_ok-passes.ensures.made_of;
      balanced = subst (λ (fed : List Card). IsBalanced (setting_of c.args.self.now) fed
          c.in_ok-passes.passes.trail.known c.in_ok-passes.passes.trail.lost)
          (sym c.new.ensures.items)
          (made_so c.splitting_changes_nothing_of_ones_own.ensures.made
          (setting_of c.args.self.now) _ _ c.pass.inside.passes.trail c.in_ok-passes.passes.trail
          c.in_ok-passes.ensures.made c.in_ok-passes.ensures.none_lost is.balanced);
    }

pub returns-clause-split : goal.returns-clause-split
returns-clause-split c =
    let is = rw (← c.pass.view_is) at c.requires.pass in
    rw (← c.pass.view_is)
    (split_so c.splitting_changes_nothing_of_ones_own.ensures.sent
    c.splitting_changes_nothing_of_ones_own.ensures.parts (label_at c.args.self.now.shared.outlets)
    _ _ _ is.of.known_so c.split.ensures.same.0 c.in_ok-passes.ensures.kept
    (ap (λ (l : List Lost). lost_by c.pass.inside.past ++ l) c.split.ensures.same.1) refl
    (c.in_ok-passes.ensures.made_of.locks_are ∙ sym is.of.locks_are)
    c.in_ok-passes.ensures.made c.in_ok-passes.ensures.none_lost c.new.ensures.items)

pub invariant_of-pass-2 : goal.invariant_of-pass-2
invariant_of-pass-2 c = (c.pass.invariant.0, c.split.ensures.timely feeder c.pass.invariant.1)
