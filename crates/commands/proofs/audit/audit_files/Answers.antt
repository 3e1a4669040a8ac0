use Rattle.std.proofs.Common.{rules}
use Rattle.command_line.specs.Arguments.{audit_files_of}
use Rattle.commands.proofs.AuditAnswers.{judged, only_judged}
use Rattle.commands.proofs.audit.audit_files.Goals as goal

pub returns-clause-judged : goal.returns-clause-judged
returns-clause-judged g c = λ t.
    judged (audit_files_of c.args.files.now) (g.H.Host.content c.args.host.now)
    c.in_ok-told.told.made.tables c.in_ok-told.told.made.script c.in_ok-told.told.made.capture
    c.in_ok-told.told.histories c.in_ok-found.found (c.in_ok-told.ensures.read t)
    c.in_ok-found.ensures.found

pub returns-clause-only : goal.returns-clause-only
returns-clause-only g c = λ t.
    only_judged c.in_ok-told.told.made.tables c.in_ok-told.told.made.script
    c.in_ok-told.told.made.capture c.in_ok-told.told.histories
    (audit_files_of c.args.files.now) (g.H.Host.content c.args.host.now) c.in_ok-found.found
    (λ tables script capture h told. c.in_ok-told.ensures.alone tables script capture h t told)
    (c.a_run_has_no_finding.ensures c.in_ok-told.told.made.tables c.in_ok-told.told.made.script
    c.in_ok-told.told.made.capture c.in_ok-told.told.histories)
    (c.a_finding_is_the_only_one.ensures c.in_ok-told.told.made.tables c.in_ok-told.told.made.script
    c.in_ok-told.told.made.capture c.in_ok-told.told.histories)
    c.in_ok-found.ensures.found

pub returns-in_err-told-clause-ended : goal.returns-in_err-told-clause-ended
returns-in_err-told-clause-ended g c =
    record {
      done = search rules;
      refused = search rules;
      exact = search rules;
      only = search rules;
      kind = search rules;
      read_fault = search rules;
      unread = search rules;
      write_fault = search rules;
      stopped = search rules;
      cut_short = search rules;
    }
