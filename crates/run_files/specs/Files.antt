-- What the files of a command hold, and how many faults each has had, as a host tells it.
use Rattle.std.specs.Prelude.{◌≡◌, ◌≢◌, ◌⊎◌, ℕ, ⊤, List, [], ◌∷◌, map, Option, Some}
use Rattle.host_io.specs.Host.{Rises}
use Rattle.command_line.specs.Arguments.{InputFiles, ReadFiles, RunInputs, OneJournal}
use Rattle.command_line.specs.Arguments.{ToldRun, standard_output}

-- what each name holds
abbrev pub Contents : Type 0
Contents = List ℕ → Option (List ℕ)

-- how many faults each name has had
abbrev pub Counts : Type 0
Counts = List ℕ → ℕ

-- the count of read faults of one of the inputs of a run rose
abbrev pub InputFaultRose : InputFiles → Counts → Counts → Type 0
InputFaultRose i old new =
    Rises (old i.rules) (new i.rules) ⊎ Rises (old i.script) (new i.script)
    ⊎ Rises (old i.capture) (new i.capture)

-- the count of read faults of one of the files that are read rose
abbrev pub ReadFaultRose : ReadFiles → Counts → Counts → Type 0
ReadFaultRose (RunInputs i) old new = InputFaultRose i old new
ReadFaultRose (OneJournal name) old new = Rises (old name) (new name)
ReadFaultRose (ToldRun a) old new =
    InputFaultRose a.inputs old new ⊎ Rises (old a.journal) (new a.journal)

-- the count of write faults of one of these names rose
abbrev pub WriteFaultRose : List (List ℕ) → Counts → Counts → Type 0
WriteFaultRose [] old new = ⊥
WriteFaultRose (name ∷ names) old new =
    Rises (old name) (new name) ⊎ WriteFaultRose names old new

-- each of these names holds what it held
abbrev pub Stay : List (List ℕ) → Contents → Contents → Type 0
Stay [] old new = ⊤
Stay (name ∷ names) old new = (new name ≡ old name) × Stay names old new

-- The writing, in the order of these names, stopped at one whose count of write faults rose, and
-- those after it hold what they held.
abbrev pub IsStopped : List (List ℕ) → Counts → Counts → Contents → Contents → Type 0
IsStopped [] old_count new_count old new = ⊥
IsStopped (name ∷ names) old_count new_count old new =
    (Rises (old_count name) (new_count name) × Stay names old new)
    ⊎ IsStopped names old_count new_count old new

-- a name, and the text that is to be written there
pub record Text : Type 0 where
  pub name : List ℕ
  pub text : List ℕ

-- each of these texts stands under its name
abbrev pub AreWritten : List Text → Contents → Type 0
AreWritten [] new = ⊤
AreWritten (t ∷ ts) new = (new t.name ≡ Some t.text) × AreWritten ts new

-- The same where the contents are told: those before it hold their whole texts.
abbrev pub IsStoppedAfter : List Text → Counts → Counts → Contents → Contents → Type 0
IsStoppedAfter [] old_count new_count old new = ⊥
IsStoppedAfter (t ∷ ts) old_count new_count old new =
    (Rises (old_count t.name) (new_count t.name) × Stay (map (λ (u : Text). u.name) ts) old new)
    ⊎ ((new t.name ≡ Some t.text) × IsStoppedAfter ts old_count new_count old new)

-- a name is none of these
abbrev pub IsNoneOf : List (List ℕ) → List ℕ → Type 0
IsNoneOf [] name = ⊤
IsNoneOf (other ∷ others) name = (name ≢ other) × IsNoneOf others name

-- every name but these holds what it held
abbrev pub OthersStay : List (List ℕ) → Contents → Contents → Type 0
OthersStay names old new = (name : List ℕ) → IsNoneOf names name → new name ≡ old name

-- a line was printed: standard output holds just that, unless its count of write faults rose
abbrev pub IsPrinted : List ℕ → Counts → Counts → Contents → Type 0
IsPrinted line old_count new_count new =
    (new standard_output ≡ Some line)
    ⊎ Rises (old_count standard_output) (new_count standard_output)
