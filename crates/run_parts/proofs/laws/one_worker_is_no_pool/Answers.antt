use Rattle.run_parts.proofs.Workers.{owes_now, never_turns, nothing_waits}
use Rattle.run_parts.proofs.laws.one_worker_is_no_pool.Goals as goal

pub returns-clause-owed : goal.returns-clause-owed
returns-clause-owed c = owes_now

pub returns-clause-never_turns : goal.returns-clause-never_turns
returns-clause-never_turns c = never_turns

pub returns-clause-nothing_waits : goal.returns-clause-nothing_waits
returns-clause-nothing_waits c = nothing_waits
