use Rattle.std.proofs.Common.{false, refl, sym, ◌∙◌, true≢false}
use Rattle.histories.proofs.LegalHistories.{legal_on}
use Rattle.journal_audit.proofs.WatchedHistory.{still_illegal, goes_on, ends, found_here}
use Rattle.journal_audit.proofs.watched.Watched.watch.Goals as goal

pub returns-then-not-self-clause-watched : goal.returns-then-not-self-clause-watched
returns-then-not-self-clause-watched c = λ so_far e one is.
    still_illegal so_far e c.args.self.now _ is c.in_ok-length.ensures c.if-not-self.true
    c.if-not-self.true

pub returns-then-is_step-clause-watched : goal.returns-then-is_step-clause-watched
returns-then-is_step-clause-watched c = λ so_far e one is.
    goes_on so_far e c.args.self.now _ is c.in_ok-length.ensures c.if-not-self.false
    c.if-not-self.false (one.0 c.if-is_step.true)

pub returns-then-is_step-clause-found : goal.returns-then-is_step-clause-found
returns-then-is_step-clause-found c = λ so_far e one is legal.
    legal_on so_far e legal (one.0 c.if-is_step.true)

pub returns-clause-watched : goal.returns-clause-watched
returns-clause-watched c = λ so_far e one is.
    ends so_far e c.args.self.now _ is c.in_ok-length.ensures refl
    (λ step. true≢false (sym (one.1 step) ∙ c.if-is_step.false))

pub returns-clause-found : goal.returns-clause-found
returns-clause-found c = λ so_far e one is.
    found_here so_far e c.args.self.now (record {
      length = c.in_ok-length.length;
      is_legal = false;
    }) is c.in_ok-length.ensures c.if-not-self.false
    (λ step. true≢false (sym (one.1 step) ∙ c.if-is_step.false))
