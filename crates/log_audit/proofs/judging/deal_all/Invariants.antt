use Rattle.std.proofs.Common.{take}
use Rattle.log_audit.specs.Judged.{AreDealt}
use Rattle.log_audit.proofs.judging.deal_all.Given as goal

abbrev pub invariant-loop-one : goal.invariant-loop-one
invariant-loop-one l = AreDealt (take l.one-index l.ports) l.rows
