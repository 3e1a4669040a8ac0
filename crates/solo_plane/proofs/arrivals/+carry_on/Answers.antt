use Rattle.std.proofs.Common.{refl}
use Rattle.solo_plane.specs.PortView.{world_of}
use Rattle.solo_plane.proofs.PacketSteps.{carried_on}
use Rattle.solo_plane.proofs.arrivals.+carry_on.Goals as goal

pub returns-in-Ended-clause-carried : goal.returns-in-Ended-clause-carried
returns-in-Ended-clause-carried t c =
    carried_on c.args.setting.now (world_of c.args.held.now) (world_of c.step.new.held)
    (world_of c.step.new.held) c.args.packet c.args.route c.step.result c.in-Ended.fed
    c.step.ensures.carried (rw c.in-Ended.is (record { memory = 0; moved = refl }))

pub returns-in-GoesOn-clause-carried : goal.returns-in-GoesOn-clause-carried
returns-in-GoesOn-clause-carried t c =
    carried_on c.args.setting.now (world_of c.args.held.now) (world_of c.step.new.held)
    (world_of c.carry_on.new.held) c.args.packet c.args.route c.step.result c.carry_on.result
    c.step.ensures.carried (rw c.in-GoesOn.is c.carry_on.ensures.carried)
