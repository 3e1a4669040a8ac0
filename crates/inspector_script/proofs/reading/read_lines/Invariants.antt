use Rattle.std.proofs.Common.{length}
use Rattle.inspector_script.specs.ScriptFile.{place_of}
use Rattle.inspector_script.proofs.ReaderState.{IsRead}
use Rattle.inspector_script.proofs.reading.read_lines.Given as goal

-- the lines that are left give the answer of all
abbrev pub invariant-loop-line : goal.invariant-loop-line
invariant-loop-line l = IsRead l.fn.bytes l.line_number (place_of l.reader) l.rest

abbrev pub decreases-loop-line : goal.decreases-loop-line
decreases-loop-line l = length l.rest
