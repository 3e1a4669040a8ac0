use Rattle.std.proofs.Common.{◌∙◌, sym, ap, Some}
use Rattle.std.specs.Prelude.{option_copied}
use Rattle.log_audit.proofs.HeldDues.{close_first, none_first, words_first}
use Rattle.log_audit.proofs.duties.begin_with_words.Goals as goal

pub returns-in-Some-Words : goal.returns-in-Some-Words
returns-in-Some-Words c =
    words_first c.args.asks.now _
    (sym c.get.ensures.value ∙ ap option_copied c.in-Some-Words.is
    ∙ ap Some c.in-Some-Words.field-0-is)

pub returns-in-Some-Close : goal.returns-in-Some-Close
returns-in-Some-Close c =
    close_first c.args.asks.now
    (sym c.get.ensures.value ∙ ap option_copied c.in-Some-Close.is
    ∙ ap Some c.in-Some-Close.field-0-is)

pub returns-in-None : goal.returns-in-None
returns-in-None c =
    none_first c.args.asks.now (sym c.get.ensures.value ∙ ap option_copied c.in-None.is)
