-- Why a command stops, its status, and what a call that stopped tells.
use Rattle.std.specs.Prelude.{◌≡◌, ◌≤◌, ◌⊎◌, ℕ, Result, Ok, Err}
use Rattle.host_io.specs.declared.whole.ReadStop.{ReadStop}
use Rattle.host_io.specs.declared.whole.ReadStop.TheVariants as read
use Rattle.text_lines.specs.declared.fault.LineFault.{LineFault}
use Rattle.text_lines.specs.declared.fault.LineFault.TheVariants as line
use Rattle.pcap_io.specs.declared.fault.CaptureFault.{CaptureFault}
use Rattle.pcap_io.specs.declared.fault.CaptureFault.TheVariants as capture
use Rattle.journal_reading.specs.declared.fault.JournalFault.{JournalFault}
use Rattle.journal_reading.specs.declared.fault.JournalFault.TheVariants as journal
use Rattle.run_files.specs.declared.refusal.Limit.{Limit}
use Rattle.run_files.specs.declared.refusal.Refusal.{Refusal}
use Rattle.run_files.specs.declared.refusal.Refusal.TheVariants as refusal
use Rattle.run_files.specs.declared.stop.Stop.{Stop}
use Rattle.run_files.specs.declared.stop.Stop.TheVariants as stop

-- ---- from the fault of a call to what stops a command

-- a file that wasn't read whole, of which this limit is asked
abbrev pub of_read : Limit → ReadStop → Stop
of_read limit read.ReadFault = stop.ReadFault
of_read limit read.TooLarge = stop.Refused (refusal.TooLarge limit)
of_read limit read.NoMemory = stop.NoMemory

abbrev pub of_rules : LineFault → Stop
of_rules (line.Bad number) = stop.Refused (refusal.Rules number)
of_rules line.NoMemory = stop.NoMemory

abbrev pub of_script : LineFault → Stop
of_script (line.Bad number) = stop.Refused (refusal.Script number)
of_script line.NoMemory = stop.NoMemory

abbrev pub of_journal : JournalFault → Stop
of_journal (journal.Bad number) = stop.Refused (refusal.Journal number)
of_journal journal.NoMemory = stop.NoMemory

abbrev pub of_capture : CaptureFault → Stop
of_capture capture.NoMemory = stop.NoMemory
of_capture fault = stop.Refused (refusal.Capture fault)

-- ---- statuses

abbrev pub status_of_refusal : Refusal → ℕ
status_of_refusal (refusal.Capture fault) = 4
status_of_refusal (refusal.Rules number) = 5
status_of_refusal (refusal.Script number) = 6
status_of_refusal (refusal.TooLarge limit) = 7
status_of_refusal (refusal.Journal number) = 10

-- the statuses of refused inputs
abbrev pub IsOfRefusal : ℕ → Type 0
IsOfRefusal status = ((4 ≤ status) × (status ≤ 7)) ⊎ (status ≡ 10)

abbrev pub status_of : Stop → ℕ
status_of stop.ReadFault = 2
status_of stop.WriteFault = 3
status_of (stop.Refused why) = status_of_refusal why
status_of stop.NoMemory = 8

-- ---- what a call tells

-- if it refused an input, this holds of why
abbrev pub IfStopRefuses : Stop → (Refusal → Type 0) → Type 0
IfStopRefuses (stop.Refused why) P = P why
IfStopRefuses other P = Unit {0}

abbrev pub IfRefused : {T : Type 0} → Result T Stop → (Refusal → Type 0) → Type 0
IfRefused (Ok x) P = Unit {0}
IfRefused (Err s) P = IfStopRefuses s P

-- what is refused is no journal
abbrev pub IsOfInputs : Refusal → Type 0
IsOfInputs (refusal.Journal number) = ⊥
IsOfInputs other = Unit {0}

-- it answered this, unless it stopped for another reason than a refusal
abbrev pub Agrees : {T : Type 0} → Result T Stop → Result T Refusal → Type 0
Agrees (Ok x) outcome = outcome ≡ Ok x
Agrees (Err s) outcome = IfStopRefuses s (λ why. outcome ≡ Err why)

-- an input is refused so: the command stops by this, unless a file couldn't be read or memory ran
-- out
abbrev pub IsStopFor : Refusal → Stop → Type 0
IsStopFor why (stop.Refused other) = other ≡ why
IsStopFor why stop.WriteFault = ⊥
IsStopFor why stop.ReadFault = Unit {0}
IsStopFor why stop.NoMemory = Unit {0}

abbrev pub StopsFor : {T : Type 0} → Refusal → Result T Stop → Type 0
StopsFor why (Ok x) = ⊥
StopsFor why (Err s) = IsStopFor why s
