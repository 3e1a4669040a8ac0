use Rattle.std.proofs.Common.{take}
use Rattle.plane.specs.Filling.{AreZero}
use Rattle.plane.proofs.opened.zero_counts.Given as goal

abbrev pub invariant-loop-port : goal.invariant-loop-port
invariant-loop-port l = AreZero (take l.port-index l.ports) l.counts
