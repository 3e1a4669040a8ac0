use Rattle.std.proofs.Common.{length, All}
use Rattle.std.specs.Prelude.{codes}
use Rattle.text_lines.specs.Words.{words_of}
use Rattle.script_lines.specs.AskLine.{ask_of}
use Rattle.script_lines.specs.Limits.{IsTemplate}
use Rattle.script_lines.proofs.LineParts.{IsUnderway}
use Rattle.script_lines.proofs.on_line.read_asks.Given as goal

abbrev pub invariant-loop-part : goal.invariant-loop-part
invariant-loop-part l =
    IsUnderway ask_of (codes ";") (words_of l.fn.line) l.asks.items (words_of l.rest)
    × All IsTemplate l.asks.items

abbrev pub decreases-loop-part : goal.decreases-loop-part
decreases-loop-part l = length l.rest
