use Rattle.std.proofs.Common.{ap}
use Rattle.packet_entry.specs.declared.packet.Card.{Card}
use Rattle.packet_entry.specs.ListWithRoom.{ListWithRoom}
use Rattle.solo_plane.specs.PortView.{world_of}
use Rattle.solo_plane.proofs.PacketSteps.{moved_from}
use Rattle.solo_plane.proofs.arrivals.go.Goals as goal

pub returns-in-Ok-clause-carried : goal.returns-in-Ok-clause-carried
returns-in-Ok-clause-carried c memory =
    moved_from memory c.args.setting.now (world_of c.args.held.now) (world_of c.attempt.new.held)
    c.args.packet c.args.route c.in-Ok.came
    (ap (λ (s : ListWithRoom Card). s.items) c.attempt.ensures.fed) c.in-Ok.ensures.moved
