use Rattle.std.proofs.Common.{◌≡◌, ◌∙◌, ◌-◌, ◌+◌, suc, subst}
use Rattle.packet_moves.specs.declared.setting.Setting.{Setting}
use Rattle.solo_schedule.specs.Schedule.{emptied_in, go_on_while}
use Rattle.solo_run.specs.RunState.{setting_of, world_of}
use Rattle.solo_run.proofs.StepSequence.{keeps_both, with_both}
use Rattle.solo_run.proofs.Looks.{emptied_on, emptied_all}
use Rattle.solo_run.proofs.rounds.empty.Goals as goal

pub returns-then-not-branch-clause-emptied : goal.returns-then-not-branch-clause-emptied
returns-then-not-branch-clause-emptied c =
    let left = c.args.rounds - (c.loop-round._round + 1) in
    let Empties : Setting → Type 0 =
    λ s. emptied_in (suc left) s c.args.script.now (world_of c.loop-round.run)
    ≡ go_on_while (emptied_in left s c.args.script.now)
    (record { world = world_of c.round.new.run; found = c.in_ok-round.field-0 }) in
    emptied_all (setting_of c.args.run.now) c.args.script.now c.args.rounds c.loop-round._round
    (world_of c.loop-round.run) (world_of c.round.new.run) c.loop-round-test.true
    (rw c.if-not-branch.true at (subst Empties c.loop-round.invariant.made_with.setting
    (c.in_ok-round.ensures.emptied left)))
    ∙ c.loop-round.invariant.on

pub loop-round-preserved : goal.loop-round-preserved
loop-round-preserved c =
    let left = c.args.rounds - (c.loop-round._round + 1) in
    let Empties : Setting → Type 0 =
    λ s. emptied_in (suc left) s c.args.script.now (world_of c.loop-round.run)
    ≡ go_on_while (emptied_in left s c.args.script.now)
    (record { world = world_of c.round.new.run; found = c.in_ok-round.field-0 }) in
    record {
      going = c.in_ok-round.ensures.going;
      made_with = with_both c.args.run.now c.loop-round.run c.round.new.run
          c.loop-round.invariant.made_with c.in_ok-round.ensures.made_with;
      keeps = keeps_both (world_of c.args.run.now) (world_of c.loop-round.run)
          (world_of c.round.new.run) c.loop-round.invariant.keeps c.in_ok-round.ensures.keeps;
      on = emptied_on (setting_of c.args.run.now) c.args.script.now c.args.rounds
          c.loop-round._round (world_of c.loop-round.run) (world_of c.round.new.run)
          c.loop-round-test.true
          (rw c.if-not-branch.false at (subst Empties c.loop-round.invariant.made_with.setting
          (c.in_ok-round.ensures.emptied left)))
          ∙ c.loop-round.invariant.on;
    }
