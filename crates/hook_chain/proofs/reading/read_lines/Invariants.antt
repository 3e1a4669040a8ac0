use Rattle.std.proofs.Common.{length}
use Rattle.hook_chain.specs.Reading.{place_of}
use Rattle.hook_chain.proofs.reading.read_lines.Given as goal
use Rattle.hook_chain.proofs.Bounds.{IsRead}

-- the lines that are left give the answer of all
abbrev pub invariant-loop-line : goal.invariant-loop-line
invariant-loop-line l = IsRead l.fn.bytes l.line_number (place_of l.reader) l.rest

abbrev pub decreases-loop-line : goal.decreases-loop-line
decreases-loop-line l = length l.rest
