-- The lines of a journal, each without its end.
use Rattle.std.specs.Prelude.{ℕ, ◌≡◌, ⊤, List, codes}
use Rattle.journal_reading.specs.declared.line.Line.{Line}
use Rattle.journal_reading.specs.declared.line.Line.TheVariants.{Heading, EntryLine, PortLine}
use Rattle.journal_reading.specs.declared.line.Line.TheVariants.{DidLine}
use Rattle.journal_reading.specs.declared.line.Line.TheVariants.{End}
use Rattle.journals.specs.declared.version.Version.{Version}
use Rattle.journals.specs.Format.{did_line, entry_line, port_line, title}
use Rattle.journals.specs.Formed.{FitsDid, IsEntry, IsWide}

abbrev pub line_text : Version → Line → List ℕ
line_text v Heading = title v
line_text v (EntryLine e) = entry_line v e
line_text v (PortLine port) = port_line port
line_text v (DidLine d) = did_line v d
line_text v End = codes "end"

abbrev pub FitsLine : Version → Line → Type 0
FitsLine v Heading = ⊤
FitsLine v (EntryLine e) = IsEntry v e
FitsLine v (PortLine port) = IsWide port
FitsLine v (DidLine d) = FitsDid v d
FitsLine v End = ⊤

-- the line of this, whose values fit
abbrev pub IsLine : Version → List ℕ → Line → Type 0
IsLine v line l = FitsLine v l × (line ≡ line_text v l)
