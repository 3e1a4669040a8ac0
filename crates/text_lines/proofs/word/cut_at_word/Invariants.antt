use Rattle.std.proofs.Common.{length}
use Rattle.text_lines.proofs.WordCuts.{IsPassed}
use Rattle.text_lines.proofs.word.cut_at_word.Given as goal

abbrev pub invariant-loop-first : goal.invariant-loop-first
invariant-loop-first l = IsPassed l.fn.word l.fn.line l.rest

abbrev pub decreases-loop-first : goal.decreases-loop-first
decreases-loop-first l = length l.rest
