use Rattle.std.proofs.Common.{◌≡◌, ◌∙◌, subst}
use Rattle.packet_moves.specs.declared.setting.Setting.{Setting}
use Rattle.solo_schedule.specs.Sending.{all_done}
use Rattle.solo_run.specs.RunState.{port_at, setting_of, world_of}
use Rattle.solo_run.proofs.StepSequence.{keeps_both, with_both}
use Rattle.solo_run.proofs.RunStages.{opened_on}
use Rattle.solo_run.proofs.Words.{last_of_words, same_words}
use Rattle.solo_run.proofs.parts.open_all.Goals as goal

pub do_all-requires-clause-last : goal.do_all-requires-clause-last
do_all-requires-clause-last c =
    last_of_words c.in_ok-asks.asks
    (same_words c.in_ok-asks.asks _ (rw c.machine.ensures at c.in_ok-asks.ensures.asks)
    (c.ports_close_at_the_end.ensures.opening c.args.script.now c.loop-place.place))

pub loop-place-preserved : goal.loop-place-preserved
loop-place-preserved c =
    let Does : Setting → Type 0 =
    λ s. world_of c.do_all.new.run
    ≡ all_done (λ w. w) s (port_at c.args.script.now c.loop-place.place) c.in_ok-asks.asks
    (world_of c.loop-place.run) in
    record {
      going = c.in_ok-do_all.ensures.going;
      made_with = with_both c.args.run.now c.loop-place.run c.do_all.new.run
          c.loop-place.invariant.made_with c.in_ok-do_all.ensures.made_with;
      keeps = keeps_both (world_of c.args.run.now) (world_of c.loop-place.run)
          (world_of c.do_all.new.run) c.loop-place.invariant.keeps
          (c.in_ok-do_all.ensures.keeps
          (same_words c.in_ok-asks.asks _ (rw c.machine.ensures at c.in_ok-asks.ensures.asks)
          (c.ports_close_at_the_end.ensures.opening c.args.script.now c.loop-place.place)));
      on = opened_on (setting_of c.args.run.now) c.args.script.now c.loop-place.place
          c.in_ok-asks.asks (world_of c.loop-place.run) (world_of c.do_all.new.run)
          (rw c.ports-place-end.ensures.value at c.loop-place-test.true)
          (rw c.machine.ensures at c.in_ok-asks.ensures.asks)
          (subst Does c.loop-place.invariant.made_with.setting c.in_ok-do_all.ensures.done)
          ∙ c.loop-place.invariant.on;
    }
