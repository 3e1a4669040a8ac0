use Rattle.std.proofs.Common.{◌+◌, sym, arith}
use Rattle.std.proofs.lemmas.List.{take_rest}
use Rattle.text_lines.proofs.TextCuts.{cut_at-found, cut_at-none}
use Rattle.text_lines.proofs.word.cut.Goals as goal

pub returns-then-byte-mark : goal.returns-then-byte-mark
returns-then-byte-mark c =
    rw (take_rest c.args.word.now (c.loop-at.at + 1))
    (sym (cut_at-found c.args.mark c.loop-at.at c.args.word.now c.loop-at.invariant (omega arith)
    (omega arith)))

pub returns : goal.returns
returns c =
    sym (cut_at-none c.args.mark c.args.word.now (λ k h. c.loop-at.invariant k (omega arith)))
