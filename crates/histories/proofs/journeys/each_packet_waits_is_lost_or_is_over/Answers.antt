use Rattle.histories.proofs.PacketEnds.{once_each}
use Rattle.histories.proofs.journeys.each_packet_waits_is_lost_or_is_over.Goals as goal

pub returns : goal.returns
returns c = once_each c.each_stay_ends_once.ensures
