use Rattle.std.proofs.Common.{◌∙◌, sym, ap, Some, refl}
use Rattle.std.specs.Prelude.{option_copied}
use Rattle.log_audit.proofs.HeldDues.{only_close}
use Rattle.log_audit.proofs.duties.are_closing.Goals as goal

pub returns-in-Some-Close : goal.returns-in-Some-Close
returns-in-Some-Close c = (
  λ t. only_close c.args.asks.now (sym c.len.ensures ∙ c.if-len-ne1.false)
      (sym c.get.ensures.value ∙ ap option_copied c.in-Some-Close.is
      ∙ ap Some c.in-Some-Close.field-0-is),
  λ e. refl,
)
