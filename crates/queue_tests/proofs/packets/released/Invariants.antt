use Rattle.std.proofs.Common.{length}
use Rattle.queue_tests.proofs.packets.released.Given as goal

abbrev pub decreases-loop-packet : goal.decreases-loop-packet
decreases-loop-packet l = length l.handed.items
