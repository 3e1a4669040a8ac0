-- Why a command ends with its status: over the inputs in the order rules, script, capture, over the
-- one journal that is read, or over the inputs and then the journal of their run.
use Rattle.std.specs.Prelude.{◌≡◌, ◌⊎◌, ℕ, Ok, Err}
use Rattle.hook_chain.specs.Rules.{RuleTables}
use Rattle.inspector_script.specs.Scripts.{ScriptValue}
use Rattle.pcap_io.specs.declared.capture.Capture.{Capture}
use Rattle.host_io.specs.Host.{Rises}
use Rattle.run_files.specs.declared.refusal.Refusal.{Refusal}
use Rattle.histories.specs.declared.histories.Histories.{Histories}
use Rattle.command_line.specs.Arguments.{AuditFiles, InputFiles, ReadFiles, RunInputs, OneJournal}
use Rattle.command_line.specs.Arguments.{ToldRun}
use Rattle.run_files.specs.Inputs.{RulesSay, ScriptSays, CaptureSays, JournalSays, Said, IsTaken}
use Rattle.run_files.specs.Inputs.{TodaysJournalSays}
use Rattle.run_files.specs.Files.{Contents, Counts, IsPrinted}
use Rattle.run_files.specs.Printed.{line_of}
use Rattle.run_files.specs.Statuses.{status_of_refusal}

-- what the inputs say
pub record AreRead (i : InputFiles) (old : Contents) (tables : RuleTables)
    (script : ScriptValue) (capture : Capture) : Type 0 where
  pub rules_say : Said RulesSay (old i.rules) (Ok tables)
  pub script_says : Said ScriptSays (old i.script) (Ok script)
  pub capture_says : Said CaptureSays (old i.capture) (Ok capture)

-- what the inputs of a run and the journal behind them say
pub record AreToldBy (a : AuditFiles) (old : Contents) (tables : RuleTables)
    (script : ScriptValue) (capture : Capture) (h : Histories) : Type 0 where
  pub inputs : AreRead a.inputs old tables script capture
  pub journal_says : Said TodaysJournalSays (old a.journal) (Ok h)

-- all three are there, within their limits and in their grammars
pub record AreAllTaken (i : InputFiles) (old : Contents) : Type 0 where
  pub rules : IsTaken RulesSay (old i.rules)
  pub script : IsTaken ScriptSays (old i.script)
  pub capture : IsTaken CaptureSays (old i.capture)

abbrev pub AreTaken : ReadFiles → Contents → Type 0
AreTaken (RunInputs i) old = AreAllTaken i old
AreTaken (OneJournal name) old = IsTaken JournalSays (old name)
AreTaken (ToldRun a) old = AreAllTaken a.inputs old × IsTaken TodaysJournalSays (old a.journal)

-- the first input of a run that isn't, and why it is refused
abbrev pub IsInputRefused : InputFiles → Contents → Refusal → Type 0
IsInputRefused i old why =
    Said RulesSay (old i.rules) (Err why)
    ⊎ (IsTaken RulesSay (old i.rules) × Said ScriptSays (old i.script) (Err why))
    ⊎ (IsTaken RulesSay (old i.rules) × IsTaken ScriptSays (old i.script)
    × Said CaptureSays (old i.capture) (Err why))

-- the first file that isn't, and why it is refused
abbrev pub IsRefused : ReadFiles → Contents → Refusal → Type 0
IsRefused (RunInputs i) old why = IsInputRefused i old why
IsRefused (OneJournal name) old why = Said JournalSays (old name) (Err why)
IsRefused (ToldRun a) old why =
    IsInputRefused a.inputs old why
    ⊎ (AreAllTaken a.inputs old × Said TodaysJournalSays (old a.journal) (Err why))

-- The reading of the inputs of a run stopped at one whose count of read faults rose, and those
-- before it are taken.
abbrev pub IsInputUnread : InputFiles → Counts → Counts → Contents → Type 0
IsInputUnread i old_count new_count old =
    Rises (old_count i.rules) (new_count i.rules)
    ⊎ (IsTaken RulesSay (old i.rules) × Rises (old_count i.script) (new_count i.script))
    ⊎ (IsTaken RulesSay (old i.rules) × IsTaken ScriptSays (old i.script)
    × Rises (old_count i.capture) (new_count i.capture))

-- the same of any files
abbrev pub IsUnread : ReadFiles → Counts → Counts → Contents → Type 0
IsUnread (RunInputs i) old_count new_count old = IsInputUnread i old_count new_count old
IsUnread (OneJournal name) old_count new_count old = Rises (old_count name) (new_count name)
IsUnread (ToldRun a) old_count new_count old =
    IsInputUnread a.inputs old_count new_count old
    ⊎ (AreAllTaken a.inputs old × Rises (old_count a.journal) (new_count a.journal))

-- a refusal is answered: with its status, and its line is printed
pub record IsAnswered (why : Refusal) (status : ℕ) (old_count new_count : Counts)
    (new : Contents) : Type 0 where
  pub status_is : status ≡ status_of_refusal why
  pub printed : IsPrinted (line_of why) old_count new_count new

-- an input was refused, which was answered
pub record IsTurnedDown (i : ReadFiles) (status : ℕ) (old_count new_count : Counts)
    (old new : Contents) : Type 0 where
  pub why : Refusal
  pub refused : IsRefused i old why
  pub answered : IsAnswered why status old_count new_count new
