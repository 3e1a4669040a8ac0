-- The ports in the order in which they opened: their numbers, and how each of them stands.
use Rattle.std.specs.Prelude.{◌≢◌, ◌<◌, ◌==◌, ℕ, suc, List, [], ◌∷◌, length, slice_index, slice_get}
use Rattle.std.specs.Prelude.{Option, Some, None, option_map, if◌then◌else◌}

-- no two of these ports are the same
abbrev pub AreApart : List ℕ → Type 0
AreApart order = (i k : ℕ) → i < k → k < length order →
    slice_index order k ≢ slice_index order i

-- at which place among these a port is
abbrev pub place_in : List ℕ → ℕ → Option ℕ
place_in [] port = None
place_in (number ∷ numbers) port =
    if port == number then Some 0 else option_map suc (place_in numbers port)

-- what stands at a place
abbrev pub stands_at : {X : Type 0} → List X → Option ℕ → Option X
stands_at states None = None
stands_at states (Some place) = slice_get states place
