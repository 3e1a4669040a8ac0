-- Names in the text and as they are.
use Rattle.std.proofs.Common.{◌≡◌, ℕ, ◌||◌, List, [], ◌∷◌, refl, ap}
use Rattle.std.specs.Prelude.{bytes_eq, map}
use Rattle.std.specs.List.{list_any}
use denote.Ref.{Bor}

pub list_any-map : (name : List ℕ) (names : List (Bor (List ℕ))) →
    list_any (λ known. bytes_eq known name) (map (λ (known : Bor (List ℕ)). known.now) names)
    ≡ list_any (λ known. bytes_eq known.now name) names
list_any-map name [] = refl
list_any-map name (known ∷ names) = ap (λ b. bytes_eq known.now name || b) (list_any-map name names)
