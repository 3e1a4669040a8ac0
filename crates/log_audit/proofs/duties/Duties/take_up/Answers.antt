use Rattle.std.proofs.Common.{◌∙◌, ◌++◌, ap, arith, Some}
use Rattle.std.specs.Prelude.{option_to_list}
use Rattle.log_audit.proofs.HeldDues.{rest_held}
use Rattle.log_audit.proofs.duties.Duties.take_up.Goals as goal

pub returns-clause-held : goal.returns-clause-held
returns-clause-held c = record {
  used = omega arith;
  asks = rest_held c.args.self.now.asks c.in-Some-Words.words c.take_first.new.self
      c.requires.held.asks
      (c.take_first.ensures.first
      ∙ ap (λ o. option_to_list o ++ c.take_first.new.self)
      (c.in-Some-Words.is ∙ ap Some c.in-Some-Words.field-0-is));
}
