use Rattle.std.proofs.Common.{length}
use Rattle.journal_reading.specs.JournalFile.{KnowsPorts, place_of}
use Rattle.journal_reading.proofs.ReadSoFar.{IsUnderway}
use Rattle.journal_reading.proofs.reading.read_lines.Given as goal

-- what was read stands in front of what is left
abbrev pub invariant-loop-line : goal.invariant-loop-line
invariant-loop-line l =
    IsUnderway l.version l.fn.bytes (place_of l.reader) l.rest l.line_number × KnowsPorts l.reader

abbrev pub decreases-loop-line : goal.decreases-loop-line
decreases-loop-line l = length l.rest
