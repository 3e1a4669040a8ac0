use Rattle.std.proofs.Common.{arith}
use Rattle.pcap_io.proofs.reading.read_frames.Goals as goal

pub loop-at-init : goal.loop-at-init
loop-at-init c = record { past = omega arith; within = c.requires.whole; read = c.requires.header }
