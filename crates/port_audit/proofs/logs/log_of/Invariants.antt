use Rattle.std.proofs.Common.{◌≡◌}
use Rattle.run_parts.specs.Ports.{log_of}
use Rattle.port_audit.proofs.logs.log_of.Given as goal

abbrev pub invariant-loop-log : goal.invariant-loop-log
invariant-loop-log l = log_of l.port l.log-iterator ≡ log_of l.port l.logs
