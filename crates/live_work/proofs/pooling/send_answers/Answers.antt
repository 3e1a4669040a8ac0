use Rattle.std.proofs.Common.{◌∙◌, List, subst}
use Rattle.std.specs.Prelude.{All}
use Rattle.std.proofs.lemmas.List.Elements.{All-tail}
use Rattle.script_lines.specs.Limits.{IsAsk}
use Rattle.script_lines.specs.declared.ask.Ask.{Ask}
use Rattle.plane.specs.Planes.{places_of}
use Rattle.port_scripts.specs.Words.{AreWords}
use Rattle.live_work.proofs.UnchangedPass.{port_both}
use Rattle.live_work.proofs.MailboxLooks.{still_heard}
use Rattle.live_work.proofs.PortMinds.{mind_stays}
use Rattle.live_work.proofs.PoolAnswers.{sends_first}
use Rattle.live_work.proofs.pooling.send_answers.Goals as goal

pub loop-asks-preserved : goal.loop-asks-preserved
loop-asks-preserved g c = record {
  fit = All-tail (All IsAsk) c.in-Some.asks c.take_first.new.self
      (subst (λ (l : List (List Ask)). All (All IsAsk) l) c.in-Some.ensures.first
      c.loop-asks.invariant.fit);
  words = All-tail AreWords c.in-Some.asks c.take_first.new.self
      (subst (λ (l : List (List Ask)). All AreWords l) c.in-Some.ensures.first
      c.loop-asks.invariant.words);
  stays = port_both c.args.stage.now.plane.now c.args.pass.now c.loop-asks.pass c.say_all.new.pass
      c.loop-asks.invariant.stays c.say_all.ensures.stays;
  heard = still_heard c.loop-asks.pass c.say_all.new.pass c.say_all.ensures.hears
      ∙ c.loop-asks.invariant.heard;
  mind = mind_stays c.args.stage.now.script.now c.loop-asks.pass c.say_all.new.pass c.loop-asks.mind
      c.say_all.new.mind c.loop-asks.invariant.mind c.say_all.ensures.hears
      c.say_all.ensures.stays.port c.say_all.ensures.counts.0 c.say_all.ensures.counts.1;
  sent = sends_first c.a_pool_answers_in_groups.ensures.answers c.args.stage.now.script.now
      (places_of c.args.stage.now.plane.now) c.args.answers c.loop-asks.left c.take_first.new.self
      c.in-Some.asks c.args.pass.now c.loop-asks.pass c.say_all.new.pass
      c.in-Some.ensures.first c.loop-asks.invariant.stays.port c.in_ok-say_all.ensures.sent
      c.loop-asks.invariant.sent;
}
