use Rattle.std.proofs.Common.{◌∙◌, sym, ap, subst}
use Rattle.run_parts.specs.Log.{all_due}
use Rattle.log_audit.specs.Dues.{HasMessage}
use Rattle.log_audit.proofs.HeldDues.{none_due}
use Rattle.log_audit.proofs.duties.Duties.is_empty.Goals as goal

pub returns : goal.returns
returns c =
    let has = subst (HasMessage c.args.self.now) c.if-has_message.false c.has_message.ensures in (
      λ t. has ∙ ap all_due (c.is_empty.ensures.0 t),
      λ e. c.is_empty.ensures.1 (none_due c.args.self.now.asks (sym has ∙ e)),
    )
