use Rattle.std.proofs.Common.{◌∙◌, arith, ap, subst, length}
use Rattle.packet_moves.specs.declared.setting.Setting.{Setting}
use Rattle.netlink_codec.specs.Messages.{first_message}
use Rattle.solo_run.specs.RunState.{SendsFirst, port_at, setting_of, world_of}
use Rattle.solo_run.proofs.MessageCuts.{sent_on, sent_all, used_within}
use Rattle.solo_run.proofs.StepSequence.{keeps_both, with_both}
use Rattle.solo_run.proofs.sending.send_all.Goals as goal

pub returns-then-used-eq0-clause-sent : goal.returns-then-used-eq0-clause-sent
returns-then-used-eq0-clause-sent g c =
    let Sends : Setting → Type 0 =
    λ s. SendsFirst s (port_at c.args.script.now c.args.place) (first_message c.loop-look.rest.now)
    (world_of c.loop-look.run) (world_of c.send_first.new.self) c.in_ok-used.used in
    let sent = subst Sends c.loop-look.invariant.made_with.setting c.in_ok-used.ensures.sent in
    sent_all (g.B.Between.then c.args.between.now (setting_of c.args.run.now) c.args.script.now)
    (setting_of c.args.run.now) _ (length c.args.datagram.now) c.loop-look._look
    c.loop-look.rest.now (world_of c.loop-look.run) (world_of c.send_first.new.self)
    c.in_ok-used.used
    c.loop-look-test.true (omega (arith, c.if-used-eq0.true)) sent
    ∙ c.loop-look.invariant.sent

pub behind-rest-requires : goal.behind-rest-requires
behind-rest-requires g c =
    used_within c.loop-look.rest.now _ _ (world_of c.loop-look.run) (world_of c.send_first.new.self)
    c.in_ok-used.used c.in_ok-used.ensures.sent

pub loop-look-preserved : goal.loop-look-preserved
loop-look-preserved g c =
    let Sends : Setting → Type 0 =
    λ s. SendsFirst s (port_at c.args.script.now c.args.place) (first_message c.loop-look.rest.now)
    (world_of c.loop-look.run) (world_of c.send_first.new.self) c.in_ok-used.used in
    let sent = subst Sends c.loop-look.invariant.made_with.setting c.in_ok-used.ensures.sent in
    let setting = c.in_ok-used.ensures.made_with.setting
    ∙ c.loop-look.invariant.made_with.setting in
    record {
      going = c.in_ok-go.ensures.going;
      made_with = with_both c.args.run.now c.send_first.new.self c.go.new.run
          (with_both c.args.run.now c.loop-look.run c.send_first.new.self
          c.loop-look.invariant.made_with c.in_ok-used.ensures.made_with)
          c.in_ok-go.ensures.made_with;
      keeps = keeps_both (world_of c.args.run.now) (world_of c.send_first.new.self)
          (world_of c.go.new.run)
          (keeps_both (world_of c.args.run.now) (world_of c.loop-look.run)
          (world_of c.send_first.new.self) c.loop-look.invariant.keeps c.in_ok-used.ensures.keeps)
          c.in_ok-go.ensures.keeps;
      shorter = omega (arith, c.behind-rest.ensures.length, c.loop-look.invariant.shorter);
      opened = c.in_ok-go.ensures.keeps.open_ports (port_at c.args.script.now c.args.place)
          ∙ c.in_ok-used.ensures.keeps.open_ports (port_at c.args.script.now c.args.place)
          ∙ c.loop-look.invariant.opened;
      sent = sent_on
          (g.B.Between.then c.args.between.now (setting_of c.args.run.now) c.args.script.now)
          (setting_of c.args.run.now) _ (length c.args.datagram.now) c.loop-look._look
          c.loop-look.rest.now c.behind-rest.result.now (world_of c.loop-look.run)
          (world_of c.send_first.new.self) (world_of c.go.new.run) c.in_ok-used.used
          c.loop-look-test.true (omega (arith, c.if-used-eq0.false))
          sent c.behind-rest.ensures.value
          (c.in_ok-go.ensures.world
          ∙ ap (λ (s : Setting). g.B.Between.then c.args.between.now s c.args.script.now
          (world_of c.send_first.new.self)) setting)
          ∙ c.loop-look.invariant.sent;
    }
