-- What is printed of a finding, and what is said of a part.
use Rattle.std.specs.Prelude.{ℕ, List, ◌++◌, codes, decimal}
use Rattle.journal_audit.specs.declared.part.Part.{Part}
use Rattle.journal_audit.specs.declared.part.Part.TheVariants.{Logs, Requests, Notices, Closings}
use Rattle.journal_audit.specs.declared.part.Part.TheVariants.{Feeder, Ports, Order, Room}
use Rattle.journal_audit.specs.declared.finding.Finding.{Finding}
use Rattle.journal_audit.specs.declared.finding.Finding.TheVariants as finding

-- the letter of a part
abbrev pub letter_of : Part → List ℕ
letter_of Logs = codes "a"
letter_of Requests = codes "b"
letter_of Notices = codes "c"
letter_of Closings = codes "d"
letter_of Feeder = codes "e"
letter_of Ports = codes "f"
letter_of Order = codes "g"
letter_of Room = codes "h"

-- what is wrong where a part doesn't hold
abbrev pub sentence_of : Part → List ℕ
sentence_of Logs = codes "a port's log isn't what the script says"
sentence_of Requests = codes "a port's messages aren't the requests that the queues tell"
sentence_of Notices = codes "a port didn't receive just the notices of what its queues took"
sentence_of Closings = codes "a port's closing isn't told as it must be"
sentence_of Feeder = codes "frames or devices that go down aren't in the order of the inputs"
sentence_of Ports = codes "the logs aren't those of the script's ports, in their order"
sentence_of Order = codes "a port opened after other entries, or ended before the last frame"
sentence_of Room = codes "a mailbox was full though fewer notices were sent in the run than it holds"

-- the line that is printed of a finding
abbrev pub line_of : Finding → List ℕ
line_of (finding.Entry place) =
    codes "audit: queue " ++ decimal place.queue ++ codes " entry " ++ decimal place.at
    ++ codes "\n"
line_of (finding.Record number) = codes "audit: record " ++ decimal number ++ codes "\n"
line_of (finding.Makers part) = codes "audit: makers " ++ letter_of part ++ codes "\n"
-- the letter after those of the parts
line_of finding.Order = codes "audit: makers i\n"
