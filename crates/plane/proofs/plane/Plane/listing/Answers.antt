use Rattle.std.proofs.Common.{List, arith, ap, refl, ◌++◌}
use Rattle.histories.specs.declared.histories.Lost.{Lost}
use Rattle.place_turns.specs.Timely.{feeder}
use Rattle.plane.specs.Past.{fed_by, lost_by}
use Rattle.plane.specs.Planes.{places_of, setting_of}
use Rattle.plane.proofs.Texts.{listed_balanced, listed_so}
use Rattle.plane.proofs.plane.Plane.listing.Goals as goal

pub lines-requires : goal.lines-requires
lines-requires g c = record { of = (rw (← c.pass.view_is) at c.requires.pass).of }

pub returns-in_err-lines-clause-pass : goal.returns-in_err-lines-clause-pass
returns-in_err-lines-clause-pass g c = record {
  of = c.lines.ensures.of;
  balanced = listed_balanced (setting_of c.args.self.now)
      (fed_by c.pass.inside.past ++ c.pass.inside.fed.items) (lost_by c.pass.inside.past) _ _ _ _
      c.lines.ensures.kept c.lines.ensures.lost
      (rw (← c.pass.view_is) at c.requires.pass).balanced;
}

pub returns-clause-pass : goal.returns-clause-pass
returns-clause-pass g c = record {
  of = c.lines.ensures.of;
  balanced = listed_balanced (setting_of c.args.self.now)
      (fed_by c.pass.inside.past ++ c.pass.inside.fed.items) (lost_by c.pass.inside.past) _ _ _ _
      c.lines.ensures.kept c.lines.ensures.lost
      (rw (← c.pass.view_is) at c.requires.pass).balanced;
}

pub returns-clause-listed : goal.returns-clause-listed
returns-clause-listed g c =
    rw (← c.pass.view_is)
    (listed_so (places_of c.args.self.now) _ _ c.in_ok-lines.lines _ _ c.append_all.result
    (omega (arith, c.args.self.now.shared.some, c.args.self.now.shared.sized))
    c.in_ok-lines.ensures.all c.in_ok-lines.ensures.lines c.append_all.ensures.appended)

pub returns-in_err-lines-clause-same : goal.returns-in_err-lines-clause-same
returns-in_err-lines-clause-same g c =
    rw (← c.pass.view_is)
    (refl, ap (λ (lost : List Lost). lost_by c.pass.inside.past ++ lost) c.lines.ensures.lost)

pub returns-clause-same : goal.returns-clause-same
returns-clause-same g c =
    rw (← c.pass.view_is)
    (refl, ap (λ (lost : List Lost). lost_by c.pass.inside.past ++ lost) c.lines.ensures.lost)

pub invariant_of-pass : goal.invariant_of-pass
invariant_of-pass g c = (c.pass.invariant.0, c.lines.ensures.timely feeder c.pass.invariant.1)

pub invariant_of-pass-2 : goal.invariant_of-pass-2
invariant_of-pass-2 g c = (c.pass.invariant.0, c.lines.ensures.timely feeder c.pass.invariant.1)
