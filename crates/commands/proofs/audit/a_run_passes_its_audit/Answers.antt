use Rattle.commands.specs.Account.{IsAccounted}
use Rattle.commands.specs.Headline.{IsAccountedOf}
use Rattle.commands.proofs.AuditAnswers.{known_alone, passes}
use Rattle.commands.proofs.audit.a_run_passes_its_audit.Goals as goal

pub returns-clause-run : goal.returns-clause-run
returns-clause-run c = λ tables script capture h known. known.run

pub returns-clause-played : goal.returns-clause-played
returns-clause-played c = λ f old new later.
    passes IsAccounted f old new later (λ tables script capture h one known. known.run)

pub returns-clause-lived : goal.returns-clause-lived
returns-clause-lived c = λ l old new later one none.
    passes (IsAccountedOf l.size) l.files old new later (λ tables script capture h is_one known.
    known_alone l.size.feeders l.size.workers tables script capture h is_one one none known)

pub returns-clause-status : goal.returns-clause-status
returns-clause-status c = λ f old new s ends played kept tells is.
    is.passes tells
    (passes IsAccounted f old new s.old (λ tables script capture h one known. known.run) played
    kept)
