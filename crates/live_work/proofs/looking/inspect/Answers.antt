use Rattle.std.proofs.Common.{refl}
use Rattle.plane.specs.Planes.{places_of}
use Rattle.live_work.proofs.UnchangedPass.{port_both, port_here}
use Rattle.live_work.proofs.MailboxLooks.{looks_both, looks_none}
use Rattle.live_work.proofs.looking.inspect.Goals as goal

pub loop-init : goal.loop-init
loop-init g c = record {
  stays = port_here c.args.stage.now.plane.now c.args.pass.now c.requires.pass;
  mind = c.requires.mind;
  on = looks_none c.what_a_port_does_adds_up.ensures.no_look c.args.stage.now.script.now
      (places_of c.args.stage.now.plane.now) c.args.pass.now c.args.pass.now refl;
}

pub loop-preserved : goal.loop-preserved
loop-preserved g c = record {
  stays = port_both c.args.stage.now.plane.now c.args.pass.now c.loop.pass c.look.new.pass
      c.loop.invariant.stays c.look.ensures.stays;
  mind = c.in_ok-look.ensures.mind;
  on = looks_both c.what_a_port_does_adds_up.ensures.next_look c.args.stage.now.script.now
      (places_of c.args.stage.now.plane.now) c.args.pass.now c.loop.pass c.look.new.pass
      c.loop.invariant.stays.port c.loop.invariant.on c.in_ok-look.ensures.on;
}

pub loop-preserved-then-branch : goal.loop-preserved-then-branch
loop-preserved-then-branch g c = record {
  stays = port_both c.args.stage.now.plane.now c.args.pass.now c.loop.pass c.look.new.pass
      c.loop.invariant.stays c.look.ensures.stays;
  mind = c.in_ok-look.ensures.mind;
  on = looks_both c.what_a_port_does_adds_up.ensures.next_look c.args.stage.now.script.now
      (places_of c.args.stage.now.plane.now) c.args.pass.now c.loop.pass c.look.new.pass
      c.loop.invariant.stays.port c.loop.invariant.on c.in_ok-look.ensures.on;
}

pub returns-in_err-look-clause-stays : goal.returns-in_err-look-clause-stays
returns-in_err-look-clause-stays g c =
    port_both c.args.stage.now.plane.now c.args.pass.now c.loop.pass c.look.new.pass
    c.loop.invariant.stays
    c.look.ensures.stays
