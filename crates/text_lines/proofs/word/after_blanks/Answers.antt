use Rattle.std.proofs.Common.{ℕ, length-drop, sym, arith}
use Rattle.std.proofs.lemmas.List.{take_rest}
use Rattle.text_lines.proofs.TextCuts.{words_of-blanks, get_or-drop_first}
use Rattle.text_lines.proofs.word.after_blanks.Goals as goal

pub returns-clause-words : goal.returns-clause-words
returns-clause-words c =
    rw (take_rest c.args.line.now c.blanks.result)
    (sym (words_of-blanks c.blanks.result c.args.line.now c.blanks.ensures.before
    c.blanks.ensures.within))

pub returns-clause-no_blank : goal.returns-clause-no_blank
returns-clause-no_blank c =
    rw (
      take_rest c.args.line.now c.blanks.result,
      get_or-drop_first c.blanks.result c.args.line.now,
    )
    (λ h. c.blanks.ensures.at (omega (arith, length-drop {A = ℕ})))
