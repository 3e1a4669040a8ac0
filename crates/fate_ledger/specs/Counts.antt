-- How many frames have each fate, as text: a line for each fate that some frame has, in the order
-- in which the fates are listed.
use Rattle.std.specs.Prelude.{ℕ, List, [], ◌∷◌, ◌++◌, codes, decimal, count_by, bytes_eq, ◌==◌}
use Rattle.std.specs.Prelude.{if◌then◌else◌, map}
use Rattle.fate_ledger.specs.declared.fate.Fate.{Fate}
use Rattle.fate_ledger.specs.declared.fate.Fate.TheVariants as fate
use Rattle.fate_ledger.specs.declared.fate.FateLine.{FateLine}
use Rattle.fate_ledger.specs.Ledger.{name}

abbrev pub every_fate : List Fate
every_fate =
    fate.Unhooked ∷ fate.Accept ∷ fate.Stop ∷ fate.Repeat ∷ fate.FailOpen ∷ fate.Bypass
    ∷ fate.Dropped ∷ fate.Overflow ∷ fate.UserFull ∷ fate.NoQueue ∷ fate.CopyNone ∷ fate.Loop
    ∷ fate.Unbind ∷ fate.PortClosed ∷ fate.DeviceDown ∷ fate.Waiting ∷ fate.NoMemory ∷ []

-- how many lines have this fate: no two fates have one name
abbrev pub count_of : Fate → List FateLine → ℕ
count_of f ls = count_by (λ (l : FateLine). bytes_eq (name l.fate) (name f)) ls

-- FATE COUNT
abbrev pub count_line : Fate → ℕ → List ℕ
count_line f count =
    if count == 0 then [] else name f ++ codes " " ++ decimal count ++ codes "\n"

-- the lines of these fates
abbrev pub counts_of : List Fate → List FateLine → List ℕ
counts_of [] ls = []
counts_of (f ∷ fs) ls = count_line f (count_of f ls) ++ counts_of fs ls

abbrev pub counts : List FateLine → List ℕ
counts ls = counts_of every_fate ls

-- ---- as they are counted in one pass

-- where the count of a fate stands
abbrev pub place : Fate → ℕ
place fate.Unhooked = 0
place fate.Accept = 1
place fate.Stop = 2
place fate.Repeat = 3
place fate.FailOpen = 4
place fate.Bypass = 5
place fate.Dropped = 6
place fate.Overflow = 7
place fate.UserFull = 8
place fate.NoQueue = 9
place fate.CopyNone = 10
place fate.Loop = 11
place fate.Unbind = 12
place fate.PortClosed = 13
place fate.DeviceDown = 14
place fate.Waiting = 15
place fate.NoMemory = 16

-- the counts of all fates, in their order
abbrev pub counted : List FateLine → List ℕ
counted ls = map (λ f. count_of f ls) every_fate

-- the lines of fates with these counts
abbrev pub lines_of : List Fate → List ℕ → List ℕ
lines_of [] ns = []
lines_of (f ∷ fs) [] = []
lines_of (f ∷ fs) (n ∷ ns) = count_line f n ++ lines_of fs ns
