use Rattle.fate_ledger.proofs.Lengths.{payloads_come, payloads_fit, released_held}
use Rattle.fate_ledger.proofs.laws.payloads_were_read_or_given.Goals as goal

pub returns-clause-each : goal.returns-clause-each
returns-clause-each c = payloads_come

pub returns-clause-fit : goal.returns-clause-fit
returns-clause-fit c = payloads_fit

pub returns-clause-held : goal.returns-clause-held
returns-clause-held c = released_held
