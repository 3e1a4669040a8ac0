use Rattle.std.proofs.Common.{arith, refl}
use Rattle.run_parts.specs.Feeder.{downs_after, falling_time}
use Rattle.plane.specs.Planes.{places_of}
use Rattle.live_work.specs.Feeding.{shares_in}
use Rattle.nfq_live.proofs.PortOpenings.{earlier, feeder_crew}
use Rattle.nfq_live.proofs.crew.Crew.make_ready.Goals as goal

pub take_down_after-requires-clause-pass : goal.take_down_after-requires-clause-pass
take_down_after-requires-clause-pass g c κs within = c.open_all.ensures.crew.all.feeds

pub returns-in_err-take_down_after-clause-crew : goal.returns-in_err-take_down_after-clause-crew
returns-in_err-take_down_after-clause-crew g c =
    feeder_crew c.parts_stay_whole.ensures c.args.stage.now.plane.now c.open_all.new.self _ refl
    refl
    c.take_down_after.ensures.stays refl c.open_all.ensures.crew

pub returns-clause-crew : goal.returns-clause-crew
returns-clause-crew g c =
    feeder_crew c.parts_stay_whole.ensures c.args.stage.now.plane.now c.open_all.new.self _ refl
    refl
    c.take_down_after.ensures.stays refl c.open_all.ensures.crew

pub returns-clause-minds : goal.returns-clause-minds
returns-clause-minds g c = c.in_ok-open_all.ensures.minds

pub returns-clause-ready : goal.returns-clause-ready
returns-clause-ready g c = record {
  met = c.open_all.new.self;
  opened = c.in_ok-open_all.ensures.opened;
  ports = refl;
  closed = refl;
  fed = c.take_down_after.ensures.none;
  fell = earlier (places_of c.args.stage.now.plane.now) 0 (falling_time 0) (falling_time 0)
      (downs_after c.args.stage.now.script.now 0) (shares_in c.open_all.new.self.feeding.pass)
      (shares_in c.take_down_after.new.pass) (omega arith)
      c.in_ok-take_down_after.ensures.down;
}
