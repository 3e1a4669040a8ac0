use Rattle.feeder_audit.specs.Fitting.{AreShort}
use Rattle.feeder_audit.proofs.lines.lines_are_short.Given as goal

-- where those still to come are short, all are
abbrev pub invariant-loop-down : goal.invariant-loop-down
invariant-loop-down l = AreShort l.down-iterator → AreShort l.script.downs
