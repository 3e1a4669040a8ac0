use Rattle.run_parts.proofs.WrittenExamples.{only_closing, not_empty, nothing_behind}
use Rattle.run_parts.proofs.WrittenExamples.{no_request, no_second, of_another, may_ask}
use Rattle.run_parts.proofs.WrittenExamples.{not_unclosed}
use Rattle.run_parts.proofs.WrittenExamples.{another_closed}
use Rattle.run_parts.proofs.WrittenExamples.{run_made, silence_not_made}
use Rattle.run_parts.proofs.by_hand.runs_of_one_port.Goals as goal

pub returns-clause-log : goal.returns-clause-log
returns-clause-log c = only_closing

pub returns-clause-not_empty : goal.returns-clause-not_empty
returns-clause-not_empty c = not_empty

pub returns-clause-nothing_behind : goal.returns-clause-nothing_behind
returns-clause-nothing_behind c = nothing_behind

pub returns-clause-request : goal.returns-clause-request
returns-clause-request c = no_request

pub returns-clause-closings : goal.returns-clause-closings
returns-clause-closings c = no_second

pub returns-clause-run : goal.returns-clause-run
returns-clause-run c = run_made

pub returns-clause-no_run : goal.returns-clause-no_run
returns-clause-no_run c = silence_not_made

pub returns-clause-another : goal.returns-clause-another
returns-clause-another c = of_another

pub returns-clause-behind : goal.returns-clause-behind
returns-clause-behind c = may_ask

pub returns-clause-unclosed : goal.returns-clause-unclosed
returns-clause-unclosed c = not_unclosed

pub returns-clause-closed_by : goal.returns-clause-closed_by
returns-clause-closed_by c = another_closed
