-- Places of entries in a list, as ascending lists of numbers; and the longer of two lists.
use Rattle.std.specs.Prelude.{◌≡◌, ℕ, ◌+◌, ◌-◌, ◌<◌, ◌≤◌, ◌⊎◌, List, [], ◌∷◌, length}
use Rattle.std.specs.Prelude.{if◌then◌else◌, nat_lt}
use Rattle.std.specs.Coded.{×_prop, Unit-prop, le_prop}
use Rattle.std.specs.List.{range_with_len}

-- the place is one of these
abbrev pub In : ℕ → List ℕ → Type 0
In k [] = ⊥
In k (x ∷ xs) = (k ≡ x) ⊎ In k xs

-- no place is in both lists
abbrev pub NoneInCommon : List ℕ → List ℕ → Type 0
NoneInCommon xs ys = (k : ℕ) → In k xs → In k ys → ⊥

-- the places ascend, from `low` on and below `high`
abbrev pub Ascends : ℕ → ℕ → List ℕ → Type 0
Ascends low high [] = Unit {0}
Ascends low high (x ∷ xs) = (low ≤ x) × ((x < high) × Ascends (x + 1) high xs)

pub Ascends-prop : (low high : ℕ) (xs : List ℕ) → IsProp (Ascends low high xs)
Ascends-prop low high [] = Unit-prop
Ascends-prop low high (x ∷ xs) =
    ×_prop le_prop (×_prop le_prop (Ascends-prop (x + 1) high xs))

-- a place put among ascending ones
abbrev pub insert : ℕ → List ℕ → List ℕ
insert k [] = k ∷ []
insert k (x ∷ xs) = if nat_lt k x then k ∷ x ∷ xs else x ∷ insert k xs

-- both lists in one, in ascending order
abbrev pub merged : List ℕ → List ℕ → List ℕ
merged [] ys = ys
merged (x ∷ xs) ys = insert x (merged xs ys)

module _ {E : Type 0} where
  -- the longer of two lists, the first where they are as long
  abbrev pub longer : List E → List E → List E
  longer xs ys = if nat_lt (length xs) (length ys) then ys else xs

  -- the places that ascend in a list
  abbrev pub IsPlaced : List E → List ℕ → Type 0
  IsPlaced seen own = Ascends 0 (length seen) own

  -- the places of the entries that a list has beyond its beginning `before`
  abbrev pub places_after : List E → List E → List ℕ
  places_after before after = range_with_len (length before) (length after - length before)
