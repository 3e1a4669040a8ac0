use Rattle.std.proofs.Common.{take}
use Rattle.log_audit.specs.Judged.{ArePortsWalked}
use Rattle.log_audit.proofs.judging.walk_all.Given as goal

abbrev pub invariant-loop-place : goal.invariant-loop-place
invariant-loop-place l =
    ArePortsWalked l.script l.histories (take l.place l.script.ports) l.kinds.items
