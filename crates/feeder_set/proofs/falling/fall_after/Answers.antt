use Rattle.std.proofs.Common.{◌∙◌, List, refl, subst, sym}
use Rattle.script_lines.specs.declared.line.Down.{Down}
use Rattle.feeder_set.specs.Steps.{AllFall}
use Rattle.feeder_set.proofs.falling.fall_after.Goals as goal

pub loop-down-preserved : goal.loop-down-preserved
loop-down-preserved g c = record {
  pass = c.fall.ensures.pass;
  parts = c.fall.ensures.parts ∙ c.loop-down.invariant.parts;
  none = c.fall.ensures.none ∙ c.loop-down.invariant.none;
  on = λ new all. c.loop-down.invariant.on new
      (subst (λ (l : List Down). AllFall c.args.stage.now.plane.now l c.loop-down.pass new)
      (sym c.in-Some.ensures.steps) (c.fall.new.pass, (c.in_ok-fall.ensures.falls, all)));
}

pub returns-clause-fall : goal.returns-clause-fall
returns-clause-fall g c =
    c.loop-down.invariant.on c.loop-down.pass
    (subst (λ (l : List Down). AllFall c.args.stage.now.plane.now l c.loop-down.pass
    c.loop-down.pass) (sym c.in-None.ensures.steps.0) refl)
