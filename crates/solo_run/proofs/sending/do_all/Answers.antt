use Rattle.std.proofs.Common.{◌≡◌, subst, List}
use Rattle.std.proofs.lemmas.List.Elements.{All-head, All-tail}
use Rattle.script_lines.specs.declared.ask.Ask.{Ask}
use Rattle.script_lines.specs.Limits.{IsAsk}
use Rattle.packet_moves.specs.declared.setting.Setting.{Setting}
use Rattle.solo_schedule.specs.Sending.{done}
use Rattle.solo_run.specs.RunState.{port_at, setting_of, world_of}
use Rattle.solo_run.proofs.AskSteps.{IsDoing, does_next}
use Rattle.solo_run.proofs.StepSequence.{with_both}
use Rattle.solo_run.proofs.sending.do_all.Goals as goal

pub do_one-requires-clause-fits : goal.do_one-requires-clause-fits
do_one-requires-clause-fits g c =
    All-head IsAsk c.in-Some.ask c.take_first.new.self
    (rw c.in-Some.ensures.first at c.loop-ask.invariant.fit)

pub loop-ask-preserved : goal.loop-ask-preserved
loop-ask-preserved g c =
    let s = setting_of c.args.run.now in
    let port = port_at c.args.script.now c.args.place in
    let Does : Setting → Type 0 =
    λ u. world_of c.do_one.new.run
    ≡ done (g.B.Between.then c.args.between.now u c.args.script.now) u port c.in-Some.ask
    (world_of c.loop-ask.run) in
    record {
      going = c.in_ok-do_one.ensures.going;
      made_with = with_both c.args.run.now c.loop-ask.run c.do_one.new.run
          c.loop-ask.invariant.made_with c.in_ok-do_one.ensures.made_with;
      fit = All-tail IsAsk c.in-Some.ask c.take_first.new.self
          (rw c.in-Some.ensures.first at c.loop-ask.invariant.fit);
      doing = does_next (g.B.Between.then c.args.between.now s c.args.script.now) s port
          c.args.asks (world_of c.args.run.now) (world_of c.loop-ask.run)
          (world_of c.do_one.new.run) c.in-Some.ask c.take_first.new.self
          (subst (λ (left : List Ask).
          IsDoing (g.B.Between.then c.args.between.now s c.args.script.now) s port c.args.asks
          (world_of c.args.run.now) left (world_of c.loop-ask.run))
          c.in-Some.ensures.first c.loop-ask.invariant.doing)
          c.in_ok-do_one.ensures.leaves
          (subst Does c.loop-ask.invariant.made_with.setting c.in_ok-do_one.ensures.done);
    }
