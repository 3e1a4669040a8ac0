-- How a command ends, whatever it is: done, or stopped for a cause; and what its status says.
use Rattle.std.specs.Prelude.{◌≡◌, ◌≢◌, ◌≤◌, ◌⊎◌, ℕ, ⊤, Bool, List, IsTrue, IfSome, IsSomeAnd, OnOk}
use Rattle.std.specs.Prelude.{IsErrOf, Result, Option, Some, None}
use Rattle.host_io.specs.Host.{ChangesOnly, SameFiles}
use Rattle.command_line.specs.Arguments.{AuditFiles, Audits, Call, ReadFiles, inputs, outputs}
use Rattle.command_line.specs.Arguments.{Migrates, standard_output, ToldRun}
use Rattle.run_files.specs.declared.refusal.Refusal.{Refusal}
use Rattle.run_files.specs.declared.stop.Stop.{Stop}
use Rattle.run_files.specs.declared.stop.Stop.TheVariants as stop
use Rattle.run_files.specs.Causes.{AreTaken, IsAnswered, IsRefused, IsTurnedDown, IsUnread}
use Rattle.run_files.specs.Files.{Contents, Counts, IsPrinted, IsStopped, OthersStay}
use Rattle.run_files.specs.Files.{ReadFaultRose, WriteFaultRose}
use Rattle.run_files.specs.Printed.{usage_line}
use Rattle.run_files.specs.Printed.{line_of as refusal_line}
use Rattle.run_files.specs.Statuses.{IfRefused, IsOfInputs, IsOfRefusal, status_of}
use Rattle.run_files.specs.Statuses.{status_of_refusal, StopsFor}
use Rattle.journal_audit.specs.declared.finding.Finding.{Finding}
use Rattle.journal_audit.specs.Printed.{line_of}
use Rattle.commands.specs.Headline.{Finds, IsAmiss, IsAtEnd, IsAudited, IsCut, IsDone}
use Rattle.commands.specs.Headline.{status_at_end}

-- What a host tells before a call and after it: whether it tells what its files hold, what they
-- held and hold, and the counts of their faults.
pub record Span : Type 0 where
  pub tells : Bool
  pub old : Contents
  pub new : Contents
  pub old_read_faults : Counts
  pub new_read_faults : Counts
  pub old_write_faults : Counts
  pub new_write_faults : Counts

abbrev pub span : {H : Type 0} → (H → Bool) → (H → Contents) → (H → Counts) → (H → Counts) → H →
    H → Span
span tells content read_faults write_faults old new =
    record {
      tells = tells old;
      old = content old;
      new = content new;
      old_read_faults = read_faults old;
      new_read_faults = read_faults new;
      old_write_faults = write_faults old;
      new_write_faults = write_faults new;
    }

-- of a command that reads no journal this holds
abbrev pub UnlessJournal : Call → Type 0 → Type 0
UnlessJournal (Migrates m) P = ⊤
UnlessJournal (Audits a) P = ⊤
UnlessJournal other P = P

-- The command ended so, by what the host did meanwhile.
pub record IsEnded {T : Type 0} (c : Call) (s : Span) (r : Result T Stop) : Type 0 where
  -- where it is done, its outputs are what the command says
  pub done : OnOk r (IsTrue s.tells → IsDone c s.old s.new)
  -- it refuses an input only where the order reaches that input, for its own reason ..
  pub refused : IfRefused r (λ why. IsTrue s.tells →
      IsSomeAnd (inputs c) (λ i. IsRefused i s.old why))
  -- .. and there it does so, unless memory ran out or a read failed ..
  pub exact : (i : ReadFiles) (why : Refusal) → inputs c ≡ Some i → IsTrue s.tells →
      IsRefused i s.old why → StopsFor why r
  -- .. and nowhere else
  pub only : IsTrue s.tells → IfSome (inputs c) (λ i. AreTaken i s.old) → IfRefused r (λ _. ⊥)
  -- whether the host tells or not, a journal is refused only where one is read
  pub kind : UnlessJournal c (IfRefused r (λ why. IsOfInputs why))
  -- a read fault is a rise of the count of an input, and those before it are taken
  pub read_fault : IsErrOf r stop.ReadFault →
      IsSomeAnd (inputs c) (λ i. ReadFaultRose i s.old_read_faults s.new_read_faults)
  pub unread : IsErrOf r stop.ReadFault → IsTrue s.tells →
      IsSomeAnd (inputs c) (λ i. IsUnread i s.old_read_faults s.new_read_faults s.old)
  -- a write fault is a rise of the count of an output: those after it hold what they held, and
  -- those before it their whole texts
  pub write_fault : IsErrOf r stop.WriteFault →
      WriteFaultRose (outputs c) s.old_write_faults s.new_write_faults
  pub stopped : IsErrOf r stop.WriteFault →
      IsStopped (outputs c) s.old_write_faults s.new_write_faults s.old s.new
  pub cut_short : IsErrOf r stop.WriteFault → IsTrue s.tells →
      IsCut c s.old_write_faults s.new_write_faults s.old s.new

-- ---- statuses

-- of an audit this holds
abbrev pub IfAudit : Call → (AuditFiles → Type 0) → Type 0
IfAudit (Audits a) P = P a
IfAudit other P = ⊤

-- the statuses that a command may end with: 10 says that a journal is refused, and 11 what an audit
-- finds
abbrev pub MayEndWith : Call → ℕ → Type 0
MayEndWith (Audits a) status = (status ≤ 8) ⊎ (status ≡ 10) ⊎ (status ≡ 11)
MayEndWith (Migrates m) status = (status ≤ 8) ⊎ (status ≡ 10)
MayEndWith other status = status ≤ 8

-- What a status says of a command, all facts at once. `play`, `live` and `program` name each.
pub record IsStatusOf (c : Call) (s : Span) (status : ℕ) : Type 0 where
  pub statuses : MayEndWith c status
  pub command : status ≢ 1
  pub read_fault : status ≡ 2 →
      IsSomeAnd (inputs c) (λ i. ReadFaultRose i s.old_read_faults s.new_read_faults)
  pub write_fault : status ≡ 3 →
      WriteFaultRose (outputs c) s.old_write_faults s.new_write_faults
  pub unread : status ≡ 2 → IsTrue s.tells →
      IsSomeAnd (inputs c) (λ i. IsUnread i s.old_read_faults s.new_read_faults s.old)
  pub stopped : status ≡ 3 →
      IsStopped (outputs c) s.old_write_faults s.new_write_faults s.old s.new
  pub cut_short : status ≡ 3 → IsTrue s.tells →
      IsCut c s.old_write_faults s.new_write_faults s.old s.new
  pub refused : IsOfRefusal status → IsTrue s.tells → IsSomeAnd (inputs c) (λ i.
      IsTurnedDown i status s.old_write_faults s.new_write_faults s.old s.new)
  pub exact : (i : ReadFiles) (why : Refusal) → inputs c ≡ Some i → IsTrue s.tells →
      IsRefused i s.old why →
      IsAnswered why status s.old_write_faults s.new_write_faults s.new ⊎ (status ≡ 8)
      ⊎ ((status ≡ 2) × IsUnread i s.old_read_faults s.new_read_faults s.old)
  pub done : status ≡ 0 → IsTrue s.tells → IsDone c s.old s.new
  pub audited : status ≡ 0 → IsTrue s.tells → IfAudit c (λ a. IsAudited a s.old)
  pub amiss : status ≡ 11 → IsTrue s.tells →
      IsAmiss c s.old_write_faults s.new_write_faults s.old s.new
  pub passes : IsTrue s.tells → IfAudit c (λ a. IsAudited a s.old →
      (status ≡ 0) ⊎ (status ≡ 8)
      ⊎ ((status ≡ 2) × IsUnread (ToldRun a) s.old_read_faults s.new_read_faults s.old))
  pub finds : IsTrue s.tells → IfAudit c (λ a. (f : Finding) → Finds a s.old f →
      ((status ≡ 11) × IsPrinted (line_of f) s.old_write_faults s.new_write_faults s.new)
      ⊎ (status ≡ 8)
      ⊎ ((status ≡ 2) × IsUnread (ToldRun a) s.old_read_faults s.new_read_faults s.old))
  pub complete : IsTrue s.tells → IfSome (inputs c) (λ i. AreTaken i s.old) →
      IsAtEnd c status ⊎ (status ≡ 8)
      ⊎ IsSomeAnd (inputs c) (λ i. ReadFaultRose i s.old_read_faults s.new_read_faults)
      ⊎ WriteFaultRose (outputs c) s.old_write_faults s.new_write_faults
  pub untouched : status ≢ 0 → status ≢ 3 → ChangesOnly standard_output s.old s.new
  pub quiet : (status ≡ 2) ⊎ (status ≡ 8) → SameFiles s.old s.new
  pub others : (status ≡ 0) ⊎ (status ≡ 3) → OthersStay (outputs c) s.old s.new

-- Arguments that aren't a command: the usage line was printed.
pub record IsNoCommand (s : Span) (status : ℕ) : Type 0 where
  pub is : status ≡ 1
  pub printed : IsTrue s.tells →
      IsPrinted usage_line s.old_write_faults s.new_write_faults s.new
  pub files : ChangesOnly standard_output s.old s.new

-- memory ran out before anything was done
pub record IsOut (s : Span) (status : ℕ) : Type 0 where
  pub is : status ≡ 8
  pub files : SameFiles s.old s.new

-- what was printed before a command ended with a status: this line, and nothing else changed
pub record IsSaid (s : Span) (line : List ℕ) : Type 0 where
  pub printed : IsTrue s.tells → IsPrinted line s.old_write_faults s.new_write_faults s.new
  pub files : ChangesOnly standard_output s.old s.new

-- a command ends with this status, and its line is printed; or memory ran out for that
abbrev pub EndsWithLine : Span → List ℕ → ℕ → ℕ → Type 0
EndsWithLine s line wanted status = ((status ≡ wanted) × IsSaid s line) ⊎ IsOut s status

-- Why a command stopped is told so, over a time in which nothing else is done: of a refusal a line
-- is printed, and of no other stop, where the host stays the same.
abbrev pub IsToldStop : Type 0 → Span → Stop → ℕ → Type 0
IsToldStop Same s (stop.Refused why) status =
    EndsWithLine s (refusal_line why) (status_of_refusal why) status
IsToldStop Same s other status = (status ≡ status_of other) × Same

-- and so is what an audit found
abbrev pub IsToldFinding : Type 0 → Span → Option Finding → ℕ → Type 0
IsToldFinding Same s None status = (status ≡ status_at_end None) × Same
IsToldFinding Same s (Some f) status =
    EndsWithLine s (line_of f) (status_at_end (Some f)) status

-- what a status says, whatever the arguments are
abbrev pub IsAnswer : Option Call → Span → ℕ → Type 0
IsAnswer None s status = IsNoCommand s status
IsAnswer (Some c) s status = IsStatusOf c s status
