-- What a run writes or prints: texts which are functions of its capture and its histories.
use Rattle.std.specs.Prelude.{ℕ, List}
use Rattle.pcap_io.specs.declared.capture.Capture.{Capture}
use Rattle.pcap_io.specs.Text.{capture_text}
use Rattle.histories.specs.declared.histories.Histories.{Histories}
use Rattle.fate_ledger.specs.declared.fate.FateLine.{FateLine}
use Rattle.fate_ledger.specs.Counts.{counts}
use Rattle.fate_ledger.specs.Fates.{fates}
use Rattle.fate_ledger.specs.Ledger.{ledger}
use Rattle.fate_ledger.specs.Released.{released}
use Rattle.journals.specs.Journal.{journal}

-- what became of each frame
abbrev pub fates_of : Capture → Histories → List FateLine
fates_of c h = fates h c.frames

-- the frames that were released, as a capture file
abbrev pub output_text : Capture → Histories → List ℕ
output_text c h = capture_text (released c (fates_of c h))

abbrev pub ledger_text : Capture → Histories → List ℕ
ledger_text c h = ledger (fates_of c h)

-- how many frames have each fate
abbrev pub counts_text : Capture → Histories → List ℕ
counts_text c h = counts (fates_of c h)

abbrev pub journal_text : Histories → List ℕ
journal_text h = journal h
