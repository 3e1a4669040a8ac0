-- At which line a file of lines is refused. What such a file is, its format says: by a relation
-- between the lines of a text and the value that they are a file of.
use Rattle.std.specs.Prelude.{ℕ, ◌≡◌, ◌+◌, ◌⊎◌, ⊤, List, [], ◌∷◌, ◌++◌, length, Option, Some, None}
use Rattle.std.specs.Prelude.{Result, Ok, Err}
use Rattle.std.specs.Str.Lines.{lines}
use Rattle.text_lines.specs.declared.fault.LineFault.{LineFault}
use Rattle.text_lines.specs.declared.fault.LineFault.TheVariants as fault
use Rattle.text_lines.specs.declared.stop.Stop.{Stop}
use Rattle.text_lines.specs.declared.stop.Stop.TheVariants.{Refused, NoMemory}

-- some lines after these make a file of them
abbrev pub BeginFile : {A : Type 0} → (List (List ℕ) → A → Type 0) → List (List ℕ) → Type 0
BeginFile {A} AreLines front =
    (rest : List (List ℕ)) × (value : A) × AreLines (front ++ rest) value

-- a line that may not stand in its place: the lines before it begin a file, and with it they don't
pub record IsBadLine {A : Type 0} (AreLines : List (List ℕ) → A → Type 0) (text : List ℕ)
    (line_number : ℕ) : Type 0 where
  pub front : List (List ℕ)
  pub line : List ℕ
  pub rest : List (List ℕ)
  pub lines_are : lines text ≡ front ++ line ∷ rest
  pub count : length front + 1 ≡ line_number
  pub begin : BeginFile AreLines front
  pub refused : BeginFile AreLines (front ++ line ∷ []) → ⊥

-- a text that ends too early: its lines begin a file, and are none themselves
pub record EndsEarly {A : Type 0} (AreLines : List (List ℕ) → A → Type 0) (text : List ℕ)
    (line_number : ℕ) : Type 0 where
  pub count : length (lines text) + 1 ≡ line_number
  pub begin : BeginFile AreLines (lines text)
  pub unfinished : (value : A) → AreLines (lines text) value → ⊥

-- the number of the first line that is refused, or of the one that is missing after the last
abbrev pub IsFirstRefused : {A : Type 0} → (List (List ℕ) → A → Type 0) → List ℕ → ℕ → Type 0
IsFirstRefused AreLines text line_number =
    IsBadLine AreLines text line_number ⊎ EndsEarly AreLines text line_number

-- A reader's call that goes on to what comes next, or says that there is nothing, unless memory runs
-- out.
abbrev pub Moves : {A P : Type 0} → Result A Stop → Option P → P → Type 0
Moves (Ok _) next new = next ≡ Some new
Moves (Err Refused) next new = next ≡ None
Moves (Err NoMemory) next new = ⊤

-- what it means of the file that its reader stopped at this line
abbrev pub fault_of : Stop → ℕ → LineFault
fault_of Refused line_number = fault.Bad line_number
fault_of NoMemory line_number = fault.NoMemory
