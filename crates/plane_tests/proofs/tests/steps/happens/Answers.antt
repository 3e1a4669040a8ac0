use Rattle.plane_tests.proofs.AllPasses.{feeder_acts, ports_act, stay_length}
use Rattle.plane_tests.proofs.tests.steps.happens.Goals as goal

pub returns-in-Says-clause-going : goal.returns-in-Says-clause-going
returns-in-Says-clause-going g c =
    ports_act c.parts_stay_whole.ensures c.args.plane.now c.args.feeder.now c.args.ports.now
    c.says.new.ports c.requires c.says.ensures

pub returns-in-Says-clause-ports : goal.returns-in-Says-clause-ports
returns-in-Says-clause-ports g c =
    stay_length c.args.plane.now c.args.ports.now c.says.new.ports c.says.ensures

pub returns-in-Hears-clause-going : goal.returns-in-Hears-clause-going
returns-in-Hears-clause-going g c =
    ports_act c.parts_stay_whole.ensures c.args.plane.now c.args.feeder.now c.args.ports.now
    c.hears.new.ports c.requires c.hears.ensures

pub returns-in-Hears-clause-ports : goal.returns-in-Hears-clause-ports
returns-in-Hears-clause-ports g c =
    stay_length c.args.plane.now c.args.ports.now c.hears.new.ports c.hears.ensures

pub returns-in_err-fed-in-Feeds-clause-going : goal.returns-in_err-fed-in-Feeds-clause-going
returns-in_err-fed-in-Feeds-clause-going g c =
    feeder_acts c.parts_stay_whole.ensures c.args.plane.now c.args.feeder.now c.feed.new.pass
    c.args.ports.now c.requires c.feed.ensures.pass c.feed.ensures.parts

pub returns-in_ok-fed-in-Feeds-clause-going : goal.returns-in_ok-fed-in-Feeds-clause-going
returns-in_ok-fed-in-Feeds-clause-going g c =
    feeder_acts c.parts_stay_whole.ensures c.args.plane.now c.args.feeder.now c.feed.new.pass
    c.args.ports.now c.requires c.feed.ensures.pass c.feed.ensures.parts
