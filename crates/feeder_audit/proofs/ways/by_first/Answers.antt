use Rattle.feeder_audit.proofs.DeviceRows.{first_falls, first_stays}
use Rattle.feeder_audit.proofs.ways.by_first.Goals as goal

pub returns-in-Some : goal.returns-in-Some
returns-in-Some c =
    first_falls c.args.device c.in-Some.first.now c.args.left.now c.in-Some.ensures.value
    c.if-first-device.true

pub returns-in-Some-2 : goal.returns-in-Some-2
returns-in-Some-2 c =
    first_stays c.args.device c.in-Some.first.now c.args.left.now c.in-Some.ensures.value
    c.if-first-device.false
