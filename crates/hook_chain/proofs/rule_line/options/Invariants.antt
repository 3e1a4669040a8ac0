use Rattle.std.proofs.Common.{◌≡◌, length}
use Rattle.text_lines.specs.Words.{words_of}
use Rattle.hook_chain.specs.RuleLine.{options_after}
use Rattle.hook_chain.proofs.rule_line.options.Given as goal

-- the words that are left say what all of them say
abbrev pub invariant-loop-option : goal.invariant-loop-option
invariant-loop-option l =
    options_after l.initial.pick l.initial.bypass l.initial.fanout (words_of l.initial.line)
    ≡ options_after l.pick l.bypass l.fanout (words_of l.line)

abbrev pub decreases-loop-option : goal.decreases-loop-option
decreases-loop-option l = length l.line
