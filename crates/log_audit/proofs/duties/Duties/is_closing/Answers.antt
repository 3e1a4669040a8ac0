use Rattle.std.proofs.Common.{◌∙◌, sym, ap, subst}
use Rattle.run_parts.specs.Log.{all_due}
use Rattle.log_audit.specs.Dues.{HasMessage}
use Rattle.log_audit.proofs.HeldDues.{closing_due}
use Rattle.log_audit.proofs.duties.Duties.is_closing.Goals as goal

pub returns : goal.returns
returns c =
    let has = subst (HasMessage c.args.self.now) c.if-has_message.false c.has_message.ensures in (
      λ t. has ∙ ap all_due (c.are_closing.ensures.0 t),
      λ e. c.are_closing.ensures.1 (closing_due c.args.self.now.asks (sym has ∙ e)),
    )
