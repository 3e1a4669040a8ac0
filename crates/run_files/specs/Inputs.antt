-- What the texts of the inputs say: what they are the files of, or why they are refused.
use Rattle.std.specs.Prelude.{◌<◌, ◌≤◌, ℕ, List, length, Result, Ok, Err, Option, IsSomeAnd}
use Rattle.hook_chain.specs.Rules.{RuleTables}
use Rattle.hook_chain.specs.Grammar as rules
use Rattle.inspector_script.specs.Scripts.{ScriptValue}
use Rattle.inspector_script.specs.Grammar as script
use Rattle.pcap_io.specs.declared.capture.Capture.{Capture}
use Rattle.pcap_io.specs.Text.{IsCapture}
use Rattle.pcap_io.specs.Reading.{IsFault}
use Rattle.packet_entry.specs.Numbers.{most_frames}
use Rattle.histories.specs.declared.histories.Histories.{Histories}
use Rattle.journals.specs.declared.version.Version.{Version}
use Rattle.journals.specs.declared.version.Version.TheVariants.{Second}
use Rattle.journal_reading.specs.JournalFile.{IsJournal, version_of}
use Rattle.journal_reading.specs.JournalFile as journal
use Rattle.run_files.specs.Numbers.{text_limit, capture_limit, journal_limit}
use Rattle.run_files.specs.declared.refusal.Limit.TheVariants as limit
use Rattle.run_files.specs.declared.refusal.Refusal.{Refusal}
use Rattle.run_files.specs.declared.refusal.Refusal.TheVariants as refusal

-- what a text says, or why it is refused
abbrev pub Saying : Type 0 → Type 1
Saying V = List ℕ → Result V Refusal → Type 0

-- rules, of at most 1,048,576 bytes: their tables, or the first line that may not stand or that is
-- missing at the end
abbrev pub RulesSay : Saying RuleTables
RulesSay text (Ok tables) = (length text ≤ text_limit) × rules.IsRulesFile text tables
RulesSay text (Err (refusal.Rules line)) =
    (length text ≤ text_limit) × rules.IsFirstRefused text line
RulesSay text (Err (refusal.TooLarge limit.Rules)) = text_limit < length text
RulesSay text (Err other) = ⊥

-- a script, of at most as many bytes
abbrev pub ScriptSays : Saying ScriptValue
ScriptSays text (Ok s) = (length text ≤ text_limit) × script.IsScriptFile text s
ScriptSays text (Err (refusal.Script line)) =
    (length text ≤ text_limit) × script.IsFirstRefused text line
ScriptSays text (Err (refusal.TooLarge limit.Script)) = text_limit < length text
ScriptSays text (Err other) = ⊥

-- a capture above the limit of 200,000 frames
pub record HasManyFrames (text : List ℕ) : Type 0 where
  pub capture : Capture
  pub file : IsCapture text capture
  pub many : most_frames < length capture.frames

-- a capture, of at most 67,108,864 bytes and 200,000 frames: its frames, or its first fault
abbrev pub CaptureSays : Saying Capture
CaptureSays text (Ok c) =
    (length text ≤ capture_limit) × IsCapture text c × (length c.frames ≤ most_frames)
CaptureSays text (Err (refusal.Capture fault)) =
    (length text ≤ capture_limit) × IsFault text fault
CaptureSays text (Err (refusal.TooLarge limit.Capture)) = capture_limit < length text
CaptureSays text (Err (refusal.TooLarge limit.Records)) =
    (length text ≤ capture_limit) × HasManyFrames text
CaptureSays text (Err other) = ⊥

-- a journal of this version, of at most 536,870,912 bytes: its histories, or the first line that
-- may not stand or that is missing at the end
abbrev pub JournalSaysIn : Version → Saying Histories
JournalSaysIn version text (Ok h) = (length text ≤ journal_limit) × IsJournal version text h
JournalSaysIn version text (Err (refusal.Journal line)) =
    (length text ≤ journal_limit) × journal.IsFirstRefused version text line
JournalSaysIn version text (Err (refusal.TooLarge limit.Journal)) = journal_limit < length text
JournalSaysIn version text (Err other) = ⊥

-- a journal of the version that its first line names
abbrev pub JournalSays : Saying Histories
JournalSays text said = JournalSaysIn (version_of text) text said

-- a journal of the version that is written today
abbrev pub TodaysJournalSays : Saying Histories
TodaysJournalSays text said = JournalSaysIn Second text said

-- the file is there, and says this
abbrev pub Said : {V : Type 0} → Saying V → Option (List ℕ) → Result V Refusal → Type 0
Said Says file outcome = IsSomeAnd file (λ text. Says text outcome)

-- the file is there, within its limits and in its grammar
pub record IsTaken {V : Type 0} (Says : Saying V) (file : Option (List ℕ)) : Type 0 where
  pub value : V
  pub said : Said Says file (Ok value)
