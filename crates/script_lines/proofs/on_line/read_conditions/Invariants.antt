use Rattle.std.proofs.Common.{length}
use Rattle.std.specs.Prelude.{codes}
use Rattle.text_lines.specs.Words.{words_of}
use Rattle.script_lines.specs.ConditionLine.{condition_of}
use Rattle.script_lines.proofs.LineParts.{IsUnderway}
use Rattle.script_lines.proofs.on_line.read_conditions.Given as goal

abbrev pub invariant-loop-part : goal.invariant-loop-part
invariant-loop-part l =
    IsUnderway condition_of (codes "and") (words_of l.fn.line) l.conditions.items (words_of l.rest)

abbrev pub decreases-loop-part : goal.decreases-loop-part
decreases-loop-part l = length l.rest
