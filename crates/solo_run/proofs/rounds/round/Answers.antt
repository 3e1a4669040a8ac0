use Rattle.std.proofs.Common.{◌≡◌, ◌∙◌, subst}
use Rattle.std.specs.Prelude.{◌||◌}
use Rattle.packet_moves.specs.declared.setting.Setting.{Setting}
use Rattle.solo_schedule.specs.Schedule.{looked}
use Rattle.solo_run.specs.RunState.{port_at, setting_of, world_of}
use Rattle.solo_run.proofs.StepSequence.{keeps_both, with_both}
use Rattle.solo_run.proofs.Looks.{round_on, round_ended_early}
use Rattle.solo_run.proofs.rounds.round.Goals as goal

pub loop-place-preserved : goal.loop-place-preserved
loop-place-preserved c =
    let Looks : Setting → Type 0 =
    λ s. looked s c.args.script.now c.loop-place.place
    (port_at c.args.script.now c.loop-place.place)
    (record { world = world_of c.loop-place.run; found = c.loop-place.found })
    ≡ record {
      world = world_of c.look.new.run;
      found = c.in_ok-here.here || c.loop-place.found;
    } in
    record {
      going = c.in_ok-here.ensures.going;
      made_with = with_both c.args.run.now c.loop-place.run c.look.new.run
          c.loop-place.invariant.made_with c.in_ok-here.ensures.made_with;
      keeps = keeps_both (world_of c.args.run.now) (world_of c.loop-place.run)
          (world_of c.look.new.run) c.loop-place.invariant.keeps c.in_ok-here.ensures.keeps;
      on = round_on (setting_of c.args.run.now) c.args.script.now c.loop-place.place
          (world_of c.loop-place.run) (world_of c.look.new.run) c.in_ok-here.here
          c.loop-place.found (rw c.ports-place-end.ensures.value at c.loop-place-test.true)
          (subst Looks c.loop-place.invariant.made_with.setting
          (c.in_ok-here.ensures.looked c.loop-place.found))
          ∙ c.loop-place.invariant.on;
    }

pub returns-then-is_quiet-clause-emptied : goal.returns-then-is_quiet-clause-emptied
returns-then-is_quiet-clause-emptied c =
    let Looks : Setting → Type 0 =
    λ s. looked s c.args.script.now c.loop-place.place
    (port_at c.args.script.now c.loop-place.place)
    (record { world = world_of c.loop-place.run; found = c.loop-place.found })
    ≡ record {
      world = world_of c.look.new.run;
      found = c.in_ok-here.here || c.loop-place.found;
    } in
    round_ended_early (setting_of c.args.run.now) c.args.script.now c.loop-place.place
    (world_of c.args.run.now) (world_of c.loop-place.run) (world_of c.look.new.run)
    c.loop-place.found (rw c.ports-place-end.ensures.value at c.loop-place-test.true)
    (rw c.if-here.true at (subst Looks c.loop-place.invariant.made_with.setting
    (c.in_ok-here.ensures.looked c.loop-place.found)))
    c.loop-place.invariant.on (c.is_quiet.ensures.0 c.if-is_quiet.true)
