use Rattle.std.proofs.Common.{[], arith, length}
use Rattle.netlink_codec.specs.Messages.{first_message}
use Rattle.live_passes.specs.Views.{port_pass}
use Rattle.plane.specs.Planes.{places_of}
use Rattle.live_work.proofs.UnchangedPass.{port_stays, some_place}
use Rattle.live_work.proofs.SentMessages.{count_sent, cut_all, cut_last, cut_on, hears_on, speaks}
use Rattle.live_work.proofs.sending.send_all.Goals as goal

pub behind-rest-requires : goal.behind-rest-requires
behind-rest-requires g c =
    c.messages_are_sent_one_by_one.ensures.used (places_of c.args.stage.now.plane.now)
    c.args.pass.now.port c.loop-look.rest.now (port_pass c.loop-look.pass)
    (port_pass c.message_unread.new.pass) c.in_ok-used.used
    (speaks c.ports_speak_by_their_passes.ensures.sends c.args.stage.now.plane.now
    (first_message c.loop-look.rest.now) c.args.pass.now c.loop-look.pass c.message_unread.new.pass
    _ _ c.in_ok-used.used c.loop-look.invariant.stays (c.in_ok-used.ensures.sent []).1
    c.message_unread.ensures.receiver.0)

pub returns-then-used-eq0-clause-sent : goal.returns-then-used-eq0-clause-sent
returns-then-used-eq0-clause-sent g c =
    cut_last c.messages_are_sent_one_by_one.ensures.none c.args.stage.now.script.now
    (places_of c.args.stage.now.plane.now) c.args.pass.now.port c.args.datagram.now
    (length c.args.datagram.now) c.loop-look._look c.loop-look.rest.now
    (port_pass c.args.pass.now) (port_pass c.loop-look.pass) (port_pass c.message_unread.new.pass)
    c.in_ok-used.used (some_place c.args.stage.now.plane.now) c.loop-look-test.true
    (omega (arith, c.if-used-eq0.true))
    (speaks c.ports_speak_by_their_passes.ensures.sends c.args.stage.now.plane.now
    (first_message c.loop-look.rest.now) c.args.pass.now c.loop-look.pass c.message_unread.new.pass
    _ _ c.in_ok-used.used c.loop-look.invariant.stays (c.in_ok-used.ensures.sent []).1
    c.message_unread.ensures.receiver.0) c.loop-look.invariant.sent

pub loop-look-preserved : goal.loop-look-preserved
loop-look-preserved g c = record {
  shorter = omega (arith, c.behind-rest.ensures.length, c.loop-look.invariant.shorter);
  stays = port_stays c.args.stage.now.plane.now c.args.pass.now c.loop-look.pass
      c.message_unread.new.pass
      c.loop-look.invariant.stays c.message_unread.ensures.pass c.message_unread.ensures.receiver.1
      c.message_unread.ensures.parts;
  hears = hears_on c.args.pass.now c.loop-look.pass c.message_unread.new.pass
      c.loop-look.invariant.hears c.message_unread.ensures.receiver.0
      (count_sent (places_of c.args.stage.now.plane.now) _ c.loop-look.pass.port
      (first_message c.loop-look.rest.now) c.loop-look.pass.dids c.message_unread.new.pass.dids
      c.loop-look.pass.trail c.message_unread.new.pass.trail _ _ c.in_ok-used.used
      (c.in_ok-used.ensures.sent []).1);
  sent = cut_on c.messages_are_sent_one_by_one.ensures.next c.args.stage.now.script.now
      (places_of c.args.stage.now.plane.now) c.args.pass.now.port c.args.datagram.now
      (length c.args.datagram.now) c.loop-look._look c.loop-look.rest.now
      c.behind-rest.result.now (port_pass c.args.pass.now) (port_pass c.loop-look.pass)
      (port_pass c.message_unread.new.pass) c.in_ok-used.used
      (some_place c.args.stage.now.plane.now)
      c.loop-look-test.true (omega (arith, c.if-used-eq0.false))
      (speaks c.ports_speak_by_their_passes.ensures.sends c.args.stage.now.plane.now
      (first_message c.loop-look.rest.now) c.args.pass.now c.loop-look.pass
      c.message_unread.new.pass _ _
      c.in_ok-used.used c.loop-look.invariant.stays (c.in_ok-used.ensures.sent []).1
      c.message_unread.ensures.receiver.0) c.behind-rest.ensures.value c.loop-look.invariant.sent;
}

pub returns-clause-sent : goal.returns-clause-sent
returns-clause-sent g c =
    cut_all c.messages_are_sent_one_by_one.ensures.enough c.args.stage.now.script.now
    (places_of c.args.stage.now.plane.now) c.args.pass.now.port c.args.datagram.now
    (length c.args.datagram.now) c.loop-look._look c.loop-look.rest.now
    (port_pass c.args.pass.now) (port_pass c.loop-look.pass) (some_place c.args.stage.now.plane.now)
    c.loop-look-test.false c.loop-look.invariant.sent

pub returns-then-used-eq0-clause-hears : goal.returns-then-used-eq0-clause-hears
returns-then-used-eq0-clause-hears g c =
    hears_on c.args.pass.now c.loop-look.pass c.message_unread.new.pass
    c.loop-look.invariant.hears c.message_unread.ensures.receiver.0
    (count_sent (places_of c.args.stage.now.plane.now) _ c.loop-look.pass.port
    (first_message c.loop-look.rest.now) c.loop-look.pass.dids c.message_unread.new.pass.dids
    c.loop-look.pass.trail c.message_unread.new.pass.trail _ _ c.in_ok-used.used
    (c.in_ok-used.ensures.sent []).1)
