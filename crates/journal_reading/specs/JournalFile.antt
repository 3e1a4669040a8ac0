-- A journal's text in a version of its format: of which histories it is one, and how far a reader
-- of it has come.
use Rattle.std.specs.Prelude.{◌≡◌, ◌≢◌, ℕ, ◌≤◌, ◌&&◌, nat_le, is_none, Bool, true, false, List}
use Rattle.std.specs.Prelude.{[], ◌∷◌, ◌++◌, All, AllPairs, Option, Some, None, IfSome, map, ⊤}
use Rattle.std.specs.Prelude.{codes}
use Rattle.std.specs.Prelude.{option_map, option_to_list, Result, Ok, Err, if◌then◌else◌, ◌==◌}
use Rattle.std.specs.Prelude.{◌+◌, ◌⊎◌, filter, length}
use Rattle.std.specs.List.{list_any}
use Rattle.std.specs.Str.{bytes_eq}
use Rattle.std.specs.BTreeSet.{contains}
use Rattle.std.specs.Ordering.{nat_cmp}
use Rattle.text_lines.specs.Words.{byte, cut_at}
use Rattle.histories.specs.declared.entry.Entry.{Entry}
use Rattle.histories.specs.declared.log.Did.{Did}
use Rattle.histories.specs.declared.log.Did.TheVariants.{Received, Sent, Closed}
use Rattle.histories.specs.declared.log.PortLog.{PortLog}
use Rattle.histories.specs.declared.histories.Histories.{Histories}
use Rattle.journal_reading.specs.declared.fault.JournalFault.{JournalFault}
use Rattle.journal_reading.specs.declared.fault.JournalFault.TheVariants.{Bad}
use Rattle.journal_reading.specs.declared.fault.JournalFault.TheVariants as fault
use Rattle.journal_reading.specs.declared.line.Line.{Line}
use Rattle.journal_reading.specs.declared.line.Line.TheVariants.{Heading, EntryLine, PortLine}
use Rattle.journal_reading.specs.declared.line.Line.TheVariants.{DidLine}
use Rattle.journal_reading.specs.declared.line.Line.TheVariants.{End}
use Rattle.journal_reading.specs.declared.reader.Reader.{Reader}
use Rattle.text_lines.specs.declared.stop.Stop.{Stop}
use Rattle.text_lines.specs.declared.stop.Stop.TheVariants.{Refused, NoMemory}
use Rattle.journals.specs.declared.version.Version.{Version}
use Rattle.journals.specs.declared.version.Version.TheVariants as version
use Rattle.journals.specs.Format as text
use Rattle.journal_reading.specs.Lines.{IsLine}
use Rattle.journals.specs.Formed.{IsEntry, IsLog, IsWellFormedIn}

-- the text is the journal of these histories, which are well formed
pub record IsJournal (v : Version) (bytes : List ℕ) (h : Histories) : Type 0 where
  pub well_formed : IsWellFormedIn v h
  pub text_is : bytes ≡ text.journal_in v h

-- the version that a text's first line names; version 1 where it names neither
abbrev pub named_by : Option (List ℕ × List ℕ) → Version
named_by None = version.First
named_by (Some (line, later)) = if bytes_eq line (text.title version.Second) then version.Second else version.First

abbrev pub version_of : List ℕ → Version
version_of bytes = named_by (cut_at (byte "\n") bytes)

-- ---- texts that are none

-- some text behind this one makes a journal of it
abbrev pub BeginsJournal : Version → List ℕ → Type 0
BeginsJournal v front = (rest : List ℕ) × (h : Histories) × IsJournal v (front ++ rest) h

-- how many lines are ended
abbrev pub line_ends : List ℕ → ℕ
line_ends text = length (filter (λ b. b == byte "\n") text)

-- a line that may not stand in its place: the text before it begins a journal, and with it and its
-- end it doesn't
pub record IsBadLine (v : Version) (text : List ℕ) (line_number : ℕ) : Type 0 where
  pub front : List ℕ
  pub rest : List ℕ
  pub line : List ℕ
  pub later : List ℕ
  pub text_is : text ≡ front ++ rest
  pub line_is : cut_at (byte "\n") rest ≡ Some (line, later)
  pub count : line_ends front + 1 ≡ line_number
  pub begins : BeginsJournal v front
  pub refused : BeginsJournal v (front ++ (line ++ codes "\n")) → ⊥

-- a text that ends too early: up to its last line's end it begins a journal, and it is none itself
pub record EndsEarly (v : Version) (text : List ℕ) (line_number : ℕ) : Type 0 where
  pub front : List ℕ
  pub piece : List ℕ
  pub text_is : text ≡ front ++ piece
  pub no_line : cut_at (byte "\n") piece ≡ None
  pub count : line_ends front + 1 ≡ line_number
  pub begins : BeginsJournal v front
  pub unfinished : (h : Histories) → IsJournal v text h → ⊥

-- The number of the first line at whose end the text no longer begins a journal, or of the one that
-- is missing at its end. `front` ends with the line before that one, or within that line: then a
-- journal begins with the whole lines before it all the more.
abbrev pub IsFirstRefused : Version → List ℕ → ℕ → Type 0
IsFirstRefused v text line_number = IsBadLine v text line_number ⊎ EndsEarly v text line_number

-- histories are read, unless memory runs out
abbrev pub Answers : Result Histories JournalFault → Histories → Type 0
Answers (Ok g) h = g ≡ h
Answers (Err (Bad line)) h = ⊥
Answers (Err fault.NoMemory) h = ⊤

-- a text is refused at this line, unless memory runs out
abbrev pub IsRefusedAt : Result Histories JournalFault → ℕ → Type 0
IsRefusedAt (Ok h) line = ⊥
IsRefusedAt (Err (Bad n)) line = n ≡ line
IsRefusedAt (Err fault.NoMemory) line = ⊤

-- what a text is answered: the one value whose journal it is, or the first line that is refused
abbrev pub IsAnswer : Version → Result Histories JournalFault → List ℕ → Type 0
IsAnswer v (Ok h) text = IsJournal v text h × ((g : Histories) → IsJournal v text g → h ≡ g)
IsAnswer v (Err (Bad line)) text = IsFirstRefused v text line
IsAnswer v (Err fault.NoMemory) text = ⊤

-- ---- how far a reader has come

-- Between the heading and the end: the entries, the number of the last one's queue, the logs before
-- the last one, the last one, and whether its port has closed.
pub record Place : Type 0 where
  pub entries : List Entry
  pub queue : ℕ
  pub logs : List PortLog
  pub last : Option PortLog
  pub shut : Bool

abbrev pub place_of : Reader → Place
place_of r = record {
  entries = r.entries;
  queue = r.queue;
  logs = r.logs;
  last = r.last;
  shut = r.shut;
}

-- behind the heading
abbrev pub start : Place
start = record { entries = []; queue = 0; logs = []; last = None; shut = false }

abbrev pub logs_of : Place → List PortLog
logs_of p = p.logs ++ option_to_list p.last

abbrev pub histories_of : Place → Histories
histories_of p = record { entries = p.entries; logs = logs_of p; lost = [] }

-- what was read so far
abbrev pub so_far : Version → Place → List ℕ
so_far v p = text.heading v ++ text.histories v (histories_of p)

abbrev pub is_port : ℕ → PortLog → Bool
is_port port l = l.port == port

abbrev pub is_closing : Did → Bool
is_closing (Received queue number visit) = false
is_closing (Sent call ask answer) = false
is_closing Closed = true

-- the last log with one thing more; none where there is no log
abbrev pub put : Option PortLog → Did → Option (Option PortLog)
put None d = None
put (Some l) d = Some (Some (record { port = l.port; dids = l.dids ++ d ∷ [] }))

-- the last log is put behind those before it
abbrev pub closed : Place → Place
closed p = record p { logs = logs_of p; last = None }

-- the place after a line that says this; none where it may not stand here, or is the last line
unfoldable pub after : Place → Line → Option Place
after p Heading = None
after p (EntryLine e) =
    if is_none p.last && nat_le p.queue e.queue
    then Some (record p { entries = p.entries ++ e ∷ []; queue = e.queue }) else None
after p (PortLine port) =
    if list_any (is_port port) (logs_of p) then None
    else Some (record p {
      logs = logs_of p;
      last = Some (record { port = port; dids = [] });
      shut = false;
    })
after p (DidLine d) =
    if p.shut then None
    else option_map (λ last. record p { last = last; shut = is_closing d }) (put p.last d)
after p End = None

-- ---- what the calls of a reader answer

-- what a call's refusal means of the text
abbrev pub fault_of : Stop → ℕ → JournalFault
fault_of Refused line_number = Bad line_number
fault_of NoMemory line_number = fault.NoMemory

-- the set of ports that a reader holds is that of its logs
abbrev pub KnowsPorts : Reader → Type 0
KnowsPorts r =
    (port : ℕ) → contains nat_cmp r.ports port ≡ list_any (is_port port) (logs_of (place_of r))

-- where there is no last log, there is none before it either
abbrev pub IsBare : List PortLog → Option PortLog → Type 0
IsBare logs None = logs ≡ []
IsBare logs (Some l) = ⊤

-- what a reader keeps
pub record IsSound (v : Version) (p : Place) : Type 0 where
  pub entries : All (IsEntry v) p.entries
  pub ascend : AllPairs (λ a b. a.queue ≤ b.queue) p.entries
  pub below : All (λ e. e.queue ≤ p.queue) p.entries
  pub logs : All (IsLog v) p.logs
  pub last : IfSome p.last (IsLog v)
  pub bare : IsBare p.logs p.last
  pub unclosed : p.shut ≡ false → IfSome p.last (λ l. All (λ d. d ≢ Closed) l.dids)
  pub differ : AllPairs (λ a b. a ≢ b) (map (λ (l : PortLog). l.port) (logs_of p))

-- what a line does: it is the last one, or one more
abbrev pub HasRead : Version → Bool → Place → Place → List ℕ → Type 0
HasRead v true p q line = (line ≡ codes "end") × (q ≡ p)
HasRead v false p q line = so_far v q ≡ so_far v p ++ (line ++ codes "\n")

abbrev pub is_end : Line → Bool
is_end Heading = false
is_end (EntryLine e) = false
is_end (PortLine port) = false
is_end (DidLine d) = false
is_end End = true

-- what is answered where a line says this
abbrev pub Follows : Result Bool Stop → Place → Place → Line → Type 0
Follows (Ok true) p q said = (said ≡ End) × (q ≡ p)
Follows (Ok false) p q said = after p said ≡ Some q
Follows (Err Refused) p q said = (said ≢ End) × (after p said ≡ None)
Follows (Err NoMemory) p q said = ⊤

-- the same of a line's text, whatever it says
abbrev pub FollowsText : Version → Result Bool Stop → Place → Place → List ℕ → Type 0
FollowsText v result p q line = (said : Line) → IsLine v line said → Follows result p q said

-- what is answered behind the line `end` with this number
abbrev pub Closes : Result Histories JournalFault → Place → List ℕ → ℕ → Type 0
Closes (Ok h) p behind line_number = (behind ≡ []) × (h ≡ histories_of p)
Closes (Err (Bad line)) p behind line_number = (behind ≢ []) × (line ≡ line_number + 1)
Closes (Err fault.NoMemory) p behind line_number = ⊤
