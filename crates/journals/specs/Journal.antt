-- The journal's text, in the version that is written today.
use Rattle.std.specs.Prelude.{ℕ, List, ◌++◌, codes}
use Rattle.histories.specs.declared.entry.Entry.{Entry}
use Rattle.histories.specs.declared.log.Did.{Did}
use Rattle.histories.specs.declared.log.PortLog.{PortLog}
use Rattle.histories.specs.declared.histories.Histories.{Histories}
use Rattle.journals.specs.declared.version.Version.TheVariants.{Second}
use Rattle.journals.specs.Format as format

abbrev pub journal : Histories → List ℕ
journal h = format.journal_in Second h

-- the first line, with its end
abbrev pub heading : List ℕ
heading = format.heading Second

abbrev pub entry : Entry → List ℕ
entry e = format.entry Second e

abbrev pub entries : List Entry → List ℕ
entries es = format.entries Second es

-- the line that a port's log begins with, with its end
abbrev pub port : ℕ → List ℕ
port n = format.port_line n ++ codes "\n"

abbrev pub did : Did → List ℕ
did d = format.did Second d

abbrev pub dids : List Did → List ℕ
dids ds = format.dids Second ds

abbrev pub logs : List PortLog → List ℕ
logs ls = format.logs Second ls

-- the last line, with its end
abbrev pub ending : List ℕ
ending = format.ending
