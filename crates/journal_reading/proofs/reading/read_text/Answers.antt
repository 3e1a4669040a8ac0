use Rattle.std.proofs.Common.{sym}
use Rattle.journal_reading.proofs.FirstRefusal.{no_heading, no_line}
use Rattle.journal_reading.proofs.ReadSoFar.{heading_is}
use Rattle.journal_reading.proofs.reading.read_text.Goals as goal

pub read_lines-requires-clause-heading : goal.read_lines-requires-clause-heading
read_lines-requires-clause-heading c =
    heading_is c.args.version c.args.bytes.now c.in-Some.line.now c.in-Some.rest.now
    (sym c.in-Some.ensures)
    (sym c.if-is_title.ensures)

pub returns-else-is_title : goal.returns-else-is_title
returns-else-is_title c =
    no_heading c.args.version c.args.bytes.now c.in-Some.line.now c.in-Some.rest.now
    (sym c.in-Some.ensures)
    (sym c.if-is_title.ensures)

pub returns-in-None : goal.returns-in-None
returns-in-None c = no_line c.args.version c.args.bytes.now (sym c.in-None.ensures)
