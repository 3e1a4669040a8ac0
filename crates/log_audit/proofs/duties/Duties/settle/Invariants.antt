use Rattle.std.proofs.Common.{◌≡◌, length}
use Rattle.log_audit.specs.Walking.{settled}
use Rattle.log_audit.specs.Dues.{AreHeld, dues_of}
use Rattle.log_audit.proofs.duties.Duties.settle.Given as goal

abbrev pub invariant-loop : goal.invariant-loop
invariant-loop l = record {
  held : AreHeld l.self;
  same : settled l.port l.call (dues_of l.self) ≡ settled l.port l.call (dues_of l.fn.self);
}

abbrev pub decreases-loop : goal.decreases-loop
decreases-loop l = length l.self.asks
