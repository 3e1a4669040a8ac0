use Rattle.std.proofs.Common.{Some, rules}
use Rattle.journal_audit.specs.declared.finding.Finding.TheVariants.{Makers}
use Rattle.journal_audit.proofs.OneFinding.{none_of_runs}
use Rattle.journal_audit.proofs.judging.audit.Goals as goal

pub returns-in-Some-2-clause-none : goal.returns-in-Some-2-clause-none
returns-in-Some-2-clause-none c =
    none_of_runs c.args.tables.now c.args.script.now c.args.capture.now c.args.histories.now
    (Some (Makers c.in-Some-2.part))
    (c.a_run_has_no_finding.ensures c.args.tables.now c.args.script.now c.args.capture.now
    c.args.histories.now) (search rules)
