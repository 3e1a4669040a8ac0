-- Files that are written part by part.
use Rattle.std.specs.Prelude.{◌≡◌, ◌+◌, ◌<◌, ◌≤◌, ◌^◌, ℕ, List, [], ◌++◌, length, Option}
use Rattle.std.specs.Prelude.{Vec, vec_capacity}
use Rattle.std.specs.List.{AllByRecursion}
use Rattle.std.specs.declared.alloc.Global.{Global}
use Rattle.packet_entry.specs.Numbers.{longest_packet}
use Rattle.pcap_io.specs.declared.capture.Capture.{Capture}
use Rattle.pcap_io.specs.Numbers.{record_header_length}
use Rattle.pcap_io.specs.Text.{IsHeld, capture_text}
use Rattle.host_io.specs.Host.{MayGoOn, written}
use Rattle.histories.specs.declared.log.PortLog.{PortLog}
use Rattle.histories.specs.declared.histories.Histories.{Histories}
use Rattle.journals.specs.Journal as text
use Rattle.fate_ledger.specs.declared.fate.FateLine.{FateLine}
use Rattle.fate_ledger.specs.Ledger as ledger

-- A text grew by these bytes. Of a text that is written part by part, the file has all up to the
-- part's place, if it is known what the file has, and the part has the rest.
pub record Grows (is_known : Type 0) (before : Option (List ℕ)) (at : ℕ) (part : List ℕ)
    (after : Option (List ℕ)) (next : ℕ) (new bytes : List ℕ) : Type 0 where
  pub place : next + length new ≡ at + length part + length bytes
  pub text : is_known → written after next new ≡ written before at part ++ bytes
  pub behind : is_known → MayGoOn after next

-- A capture's file can be written with the memory of this part, its first: it can be spelled, each
-- of its places fits a number of 64 bits, and any record fits the part, which is empty.
pub record IsCaptureReady (c : Capture) (at : ℕ) (part : Vec ℕ Global) : Type 0 where
  pub held : IsHeld c
  pub places : length (capture_text c) < 2 ^ 64
  pub first : at ≡ 0
  pub empty : part.items ≡ []
  pub room : record_header_length + longest_packet ≤ vec_capacity part

-- none of these has a line of more than so many bytes
abbrev pub AreLinesWithin : {L : Type 0} → (L → List ℕ) → ℕ → List L → Type 0
AreLinesWithin line most ls = AllByRecursion (λ l. length (line l) ≤ most) ls

pub record IsLogWithin (most : ℕ) (l : PortLog) : Type 0 where
  pub port : length (text.port l.port) ≤ most
  pub dids : AreLinesWithin text.did most l.dids

abbrev pub AreLogsWithin : ℕ → List PortLog → Type 0
AreLogsWithin most ls = AllByRecursion (λ l. IsLogWithin most l) ls

-- Lines were counted besides others: none has more bytes than the longest, and all of them
-- together have no more.
pub record Counts (longest all : ℕ) (AreWithin : ℕ → Type 0) (bytes new_longest new_all : ℕ) :
    Type 0 where
  pub longest_stays : longest ≤ new_longest
  pub lines : AreWithin new_longest
  pub bytes_fit : all + bytes ≤ new_all

-- A text of lines can be written with the memory of this part, its first: each place of the text
-- fits a number of 64 bits, and the part is empty, and has room for the heading and for a line of
-- so many bytes.
pub record Begins (whole heading : List ℕ) (longest at : ℕ) (part : Vec ℕ Global) : Type 0 where
  pub places : length whole < 2 ^ 64
  pub first : at ≡ 0
  pub empty : part.items ≡ []
  pub heading_fits : length heading ≤ vec_capacity part
  pub room : longest ≤ vec_capacity part

-- A journal's file can be written with the memory of this part, and no line of it behind the
-- heading has more than so many bytes: of its entries, of its logs, and the last one.
pub record IsJournalReady (h : Histories) (longest at : ℕ) (part : Vec ℕ Global) : Type 0 where
  pub begins : Begins (text.journal h) text.heading longest at part
  pub entries : AreLinesWithin text.entry longest h.entries
  pub logs : AreLogsWithin longest h.logs
  pub ending : length text.ending ≤ longest

-- A ledger's file can be written with the memory of this part, and no line of a frame has more than
-- so many bytes.
pub record IsLedgerReady (ls : List FateLine) (longest at : ℕ) (part : Vec ℕ Global) : Type 0 where
  pub begins : Begins (ledger.ledger ls) ledger.heading longest at part
  pub lines : AreLinesWithin ledger.line longest ls
