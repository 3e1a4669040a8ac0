use Rattle.packet_moves.proofs.FedPackets.{fed_one, sent_none}
use Rattle.packet_moves.proofs.laws.only_feeding_feeds.Goals as goal

pub returns : goal.returns
returns c = record { fed = fed_one; sent = sent_none }
