-- Facts of each item of a list, said item by item.
use Rattle.std.specs.Prelude.{◌≡◌, ◌<◌, ◌⊎◌, ℕ, ◌+◌, List, [], ◌∷◌, ◌++◌, slice_get, Some}

module _ {X : Type 0} where
  -- each is so
  abbrev pub Every : (X → Type 0) → List X → Type 0
  Every P [] = Unit {0}
  Every P (x ∷ xs) = P x × Every P xs

  -- each is so with its number, the first having number n
  abbrev pub AllFrom : (ℕ → X → Type 0) → ℕ → List X → Type 0
  AllFrom P n [] = Unit {0}
  AllFrom P n (x ∷ xs) = P n x × AllFrom P (n + 1) xs

  -- one is so
  abbrev pub OneIs : (X → Type 0) → List X → Type 0
  OneIs P [] = ⊥
  OneIs P (x ∷ xs) = P x ⊎ OneIs P xs

  -- each of the first n is so
  abbrev pub EveryBelow : ℕ → (X → Type 0) → List X → Type 0
  EveryBelow n P xs = (k : ℕ) (x : X) → k < n → slice_get xs k ≡ Some x → P x

  -- the lists of several places, one behind the other
  abbrev pub flat : List (List X) → List X
  flat [] = []
  flat (xs ∷ lists) = xs ++ flat lists
