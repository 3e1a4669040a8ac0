use Rattle.total_order.specs.Steps.{Has, HasCome, taken}
use Rattle.histories.specs.History.{history}
use Rattle.total_order.proofs.Knowledge.{known_first, known_next, known_on, heard_on}
use Rattle.total_order.proofs.Knowledge.{known_as_on}
use Rattle.total_order.proofs.Logs.{heard_both, heard_parts}
use Rattle.total_order.proofs.laws.what_is_known_stays_known.Goals as goal

pub returns-clause-first : goal.returns-clause-first
returns-clause-first c = known_first

pub returns-clause-next : goal.returns-clause-next
returns-clause-next c = known_next

pub returns-clause-come : goal.returns-clause-come
returns-clause-come c places before after time later number visit up on =
    known_on places before after time later up on (HasCome number visit)

pub returns-clause-taken : goal.returns-clause-taken
returns-clause-taken c places before after time later queue number visit up on =
    known_on places before after time later up on
    (λ es. Has number visit (taken (history queue es)))

pub returns-clause-heard : goal.returns-clause-heard
returns-clause-heard c places before after time later ds up on =
    heard_on places before after time later up on ds

pub returns-clause-known : goal.returns-clause-known
returns-clause-known c places before after logs time later at event up on =
    known_as_on places before after time later up on logs at event

pub returns-clause-both : goal.returns-clause-both
returns-clause-both c = heard_both

pub returns-clause-parts : goal.returns-clause-parts
returns-clause-parts c = heard_parts
