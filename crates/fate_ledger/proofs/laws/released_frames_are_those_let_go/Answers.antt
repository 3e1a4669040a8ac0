use Rattle.fate_ledger.proofs.ReleasedCapture.{in_order, as_written}
use Rattle.fate_ledger.proofs.laws.released_frames_are_those_let_go.Goals as goal

pub returns-clause-order : goal.returns-clause-order
returns-clause-order c = in_order

pub returns-clause-each : goal.returns-clause-each
returns-clause-each c = as_written
