use Rattle.std.proofs.Common.{arith}
use Rattle.text_lines.proofs.WordCuts.{none_passed, one_passed}
use Rattle.text_lines.proofs.word.cut_at_word.Goals as goal

pub loop-first-init : goal.loop-first-init
loop-first-init c = none_passed c.args.word.now c.args.line.now

pub loop-first-preserved : goal.loop-first-preserved
loop-first-preserved c =
    one_passed c.args.word.now c.args.line.now c.loop-first.rest.now c.in-Some.later.now
    c.in-Some.first.now c.loop-first.invariant c.in-Some.ensures.rest c.in-Some.ensures.word
    (grind arith)
