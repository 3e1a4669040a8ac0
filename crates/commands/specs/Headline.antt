-- The headline: what stands in the files after a command.
use Rattle.std.specs.Prelude.{◌≡◌, ◌⊎◌, ℕ, ⊤, List, [], ◌∷◌, Option, Some, None, IsSomeAnd, Ok}
use Rattle.std.specs.Prelude.{◌≤◌, length, MatchOption}
use Rattle.hook_chain.specs.Rules.{RuleTables}
use Rattle.hook_chain.specs.Grammar.{IsRulesFile}
use Rattle.inspector_script.specs.Grammar.{IsScriptFile}
use Rattle.inspector_script.specs.Scripts.{ScriptValue}
use Rattle.pcap_io.specs.declared.capture.Capture.{Capture}
use Rattle.pcap_io.specs.Text.{capture_text}
use Rattle.histories.specs.declared.histories.Histories.{Histories}
use Rattle.histories.specs.Listing.{listing}
use Rattle.solo_schedule.specs.Schedule.{before_ends}
use Rattle.generated.specs.Captures.{generated_capture}
use Rattle.generated.specs.Texts.{rules_text, script_text}
use Rattle.command_line.specs.Arguments.{AuditFiles, Audits, Call, Generates, GenFiles, InputFiles}
use Rattle.command_line.specs.Arguments.{Lists, ListFiles}
use Rattle.command_line.specs.Arguments.{LiveFiles, Lives, MigrateFiles, Migrates, PlayFiles, Plays}
use Rattle.command_line.specs.Arguments.{RunSize, Sample, standard_output, Tries}
use Rattle.commands.specs.Account.{AreAccounted, IsAccounted}
use Rattle.journals.specs.declared.version.Version.TheVariants.{Second}
use Rattle.journal_reading.specs.JournalFile.{IsJournal}
use Rattle.run_files.specs.Causes.{AreRead, AreToldBy}
use Rattle.run_files.specs.Inputs.{JournalSays, Said}
use Rattle.run_files.specs.Numbers.{journal_limit}
use Rattle.run_files.specs.Files.{AreWritten, Contents, Counts, IsPrinted, IsStoppedAfter, Text}
use Rattle.journal_audit.specs.declared.finding.Finding.{Finding}
use Rattle.journal_audit.specs.Findings.{IsFound, IsRunOf}
use Rattle.journal_audit.specs.Printed.{line_of}
use Rattle.run_files.specs.Outputs.{output_text, ledger_text, journal_text, counts_text}

-- ---- play and live

-- what is known of a run of a script over a capture, under its rules
abbrev pub Account : Type 1
Account = RuleTables → ScriptValue → Capture → Histories → Type 0

-- The outputs are the texts of one run on what the three inputs say, of which this is known.
pub record IsWritten (Known : Account) (f : PlayFiles) (old new : Contents) : Type 0 where
  pub tables : RuleTables
  pub script : ScriptValue
  pub capture : Capture
  pub histories : Histories
  pub inputs : AreRead f.inputs old tables script capture
  pub account : Known tables script capture histories
  pub output_is : new f.output ≡ Some (output_text capture histories)
  pub ledger_is : new f.ledger ≡ Some (ledger_text capture histories)
  pub journal_is : new f.journal ≡ Some (journal_text histories)

-- The journal is the histories of the one run that the schedule has on these inputs, of which each
-- queue's is legal; all events of all queues have one order; every packet that met a queue was
-- released or destroyed exactly once, by the event that its ledger line names, or still waits; and
-- the written capture is exactly the frames that were released, in input order, each as it was read
-- or with its last payload.
abbrev pub IsPlayed : PlayFiles → Contents → Contents → Type 0
IsPlayed f old new = IsWritten IsAccounted f old new

-- the rules of these tables, with so many feeders
abbrev pub with_feeders : ℕ → RuleTables → RuleTables
with_feeders feeders tables = record { rules = tables.rules; feeders = feeders }

-- what is known of a run with threads of this size: its rules fan out by its feeders, who share out
-- the frames, and each port answers with its workers
abbrev pub IsAccountedOf : RunSize → Account
IsAccountedOf size tables script capture h =
    AreAccounted size.workers size.feeders (with_feeders size.feeders tables) script capture h

-- The same of a run with threads, which is one of many.
abbrev pub IsLived : LiveFiles → Contents → Contents → Type 0
IsLived l old new = IsWritten (IsAccountedOf l.size) l.files old new

-- three texts, by the names of the files that they are for, in the order of their writing
abbrev pub texts_as : PlayFiles → List ℕ → List ℕ → List ℕ → List Text
texts_as f output ledger journal =
    record { name = f.output; text = output }
    ∷ record { name = f.ledger; text = ledger }
    ∷ record { name = f.journal; text = journal }
    ∷ []

-- those of a run
abbrev pub run_texts : PlayFiles → Capture → Histories → List Text
run_texts f capture h =
    texts_as f (output_text capture h) (ledger_text capture h) (journal_text h)

-- What stands where the writing of such a run stopped at a file that couldn't be written: what was
-- written before it is whole.
pub record IsCutShort (Known : Account) (f : PlayFiles) (old_count new_count : Counts)
    (old new : Contents) : Type 0 where
  pub tables : RuleTables
  pub script : ScriptValue
  pub capture : Capture
  pub histories : Histories
  pub inputs : AreRead f.inputs old tables script capture
  pub account : Known tables script capture histories
  pub stopped : IsStoppedAfter (run_texts f capture histories) old_count new_count old new

-- ---- list

-- The output is the listing of the queues of such a run as they stand before the ports end: all
-- frames have passed and the mailboxes were emptied.
pub record IsListed (f : ListFiles) (old new : Contents) : Type 0 where
  pub tables : RuleTables
  pub script : ScriptValue
  pub capture : Capture
  pub inputs : AreRead f.inputs old tables script capture
  pub output_is : new f.output ≡ Some (listing (before_ends script tables capture).entries)

-- ---- gen

-- the inputs, by their names, in the order of their writing
abbrev pub input_texts : InputFiles → List ℕ → List Text
input_texts i capture =
    record { name = i.rules; text = rules_text }
    ∷ record { name = i.script; text = script_text }
    ∷ record { name = i.capture; text = capture }
    ∷ []

abbrev pub gen_texts : GenFiles → List Text
gen_texts g =
    input_texts g.files (capture_text (generated_capture g.sample.number g.sample.count))

-- the three files are the generated ones
abbrev pub IsGenerated : GenFiles → Contents → Type 0
IsGenerated g new = AreWritten (gen_texts g) new

-- ---- trial

-- A text is that of the counts of a run like that of `play` on the generated inputs.
pub record IsCounted (s : Sample) (text : List ℕ) : Type 0 where
  pub tables : RuleTables
  pub script : ScriptValue
  pub histories : Histories
  pub rules_say : IsRulesFile rules_text tables
  pub script_says : IsScriptFile script_text script
  pub account : IsAccounted tables script (generated_capture s.number s.count) histories
  pub text_is : text ≡ counts_text (generated_capture s.number s.count) histories

abbrev pub IsTried : Sample → Contents → Type 0
IsTried s new = IsSomeAnd (new standard_output) (IsCounted s)

-- ---- migrate

-- The new text is the journal of what the old one tells, which is the journal of just one value.
pub record IsMigrated (m : MigrateFiles) (old new : Contents) : Type 0 where
  pub histories : Histories
  pub source_says : Said JournalSays (old m.source) (Ok histories)
  pub only : (h : Histories) → Said JournalSays (old m.source) (Ok h) → h ≡ histories
  pub target_is : new m.target ≡ Some (journal_text histories)
  -- it can be read again, and tells the same
  pub tells_it : IsJournal Second (journal_text histories) histories

-- ---- audit

-- The journal tells histories of a run on what the three inputs say.
pub record IsAudited (a : AuditFiles) (old : Contents) : Type 0 where
  pub tables : RuleTables
  pub script : ScriptValue
  pub capture : Capture
  pub histories : Histories
  pub told : AreToldBy a old tables script capture histories
  pub run : IsRunOf tables script capture histories

-- It tells other histories, of which this is found.
pub record Finds (a : AuditFiles) (old : Contents) (f : Finding) : Type 0 where
  pub tables : RuleTables
  pub script : ScriptValue
  pub capture : Capture
  pub histories : Histories
  pub told : AreToldBy a old tables script capture histories
  pub found : IsFound tables script capture histories f

-- what an audit answers: nothing where it tells a run
abbrev pub IsJudged : AuditFiles → Contents → Option Finding → Type 0
IsJudged a old found = MatchOption found (IsAudited a old) (Finds a old)

-- What any command answers. Only an audit finds anything.
abbrev pub IsFoundBy : Call → Contents → Option Finding → Type 0
IsFoundBy (Audits a) old found = IsJudged a old found
IsFoundBy other old found = found ≡ None

-- the same over any host
abbrev pub MayFind : Call → Option Finding → Type 0
MayFind (Audits a) found = ⊤
MayFind other found = found ≡ None

-- what it doesn't answer: a finding of a run, or another one than there is
pub record IsOnlyJudged (a : AuditFiles) (old : Contents) (found : Option Finding) : Type 0 where
  pub run : IsAudited a old → found ≡ None
  pub finding : (f : Finding) → Finds a old f → found ≡ Some f

abbrev pub IsOnlyFoundBy : Call → Contents → Option Finding → Type 0
IsOnlyFoundBy (Audits a) old found = IsOnlyJudged a old found
IsOnlyFoundBy other old found = ⊤

-- the files of a run, as an audit of it names them
abbrev pub audit_of_run : PlayFiles → AuditFiles
audit_of_run f = record { inputs = f.inputs; journal = f.journal }

-- After a run its inputs hold what they held before it, and its journal what was written there, in
-- no more bytes than are read of a journal.
pub record AreKept (f : PlayFiles) (old new later : Contents) : Type 0 where
  pub rules : later f.inputs.rules ≡ old f.inputs.rules
  pub script : later f.inputs.script ≡ old f.inputs.script
  pub capture : later f.inputs.capture ≡ old f.inputs.capture
  pub journal : later f.journal ≡ new f.journal
  pub short : IsSomeAnd (new f.journal) (λ text. length text ≤ journal_limit)

-- what an audit found was printed
pub record IsReported (a : AuditFiles) (old_count new_count : Counts) (old new : Contents)
    : Type 0 where
  pub finding : Finding
  pub finds : Finds a old finding
  pub printed : IsPrinted (line_of finding) old_count new_count new

-- the command is an audit, which found something that was printed
abbrev pub IsAmiss : Call → Counts → Counts → Contents → Contents → Type 0
IsAmiss (Audits a) old_count new_count old new = IsReported a old_count new_count old new
IsAmiss other old_count new_count old new = ⊥

-- the status of a command that came to its end, with what an audit found
abbrev pub status_at_end : Option Finding → ℕ
status_at_end None = 0
status_at_end (Some f) = 11

-- such a status is 0, and of an audit also 11
abbrev pub IsAtEnd : Call → ℕ → Type 0
IsAtEnd (Audits a) status = (status ≡ 0) ⊎ (status ≡ 11)
IsAtEnd other status = status ≡ 0

-- ---- any command

-- what stands after it
abbrev pub IsDone : Call → Contents → Contents → Type 0
IsDone (Plays f) old new = IsPlayed f old new
IsDone (Lists f) old new = IsListed f old new
IsDone (Generates g) old new = IsGenerated g new
IsDone (Tries s) old new = IsTried s new
IsDone (Migrates m) old new = IsMigrated m old new
IsDone (Lives l) old new = IsLived l old new
-- an audit writes nothing; what it answers is `IsJudged`
IsDone (Audits a) old new = ⊤

-- what stands where its writing stopped, beside what `IsStopped` says
abbrev pub IsCut : Call → Counts → Counts → Contents → Contents → Type 0
IsCut (Plays f) old_count new_count old new =
    IsCutShort IsAccounted f old_count new_count old new
IsCut (Lists f) old_count new_count old new = ⊤
IsCut (Generates g) old_count new_count old new =
    IsStoppedAfter (gen_texts g) old_count new_count old new
IsCut (Tries s) old_count new_count old new = ⊤
IsCut (Migrates m) old_count new_count old new = ⊤
IsCut (Lives l) old_count new_count old new =
    IsCutShort (IsAccountedOf l.size) l.files old_count new_count old new
IsCut (Audits a) old_count new_count old new = ⊤
