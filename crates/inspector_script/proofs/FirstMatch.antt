-- The first of a list that passes a test.
use Rattle.std.proofs.Common.{◌≡◌, Bool, true, false, cond, List, [], ◌∷◌, ◌++◌, Option, Some, None}
use Rattle.std.proofs.Common.{refl, All, find}
use Rattle.std.specs.Prelude.{IfSome}
use Rattle.std.proofs.lemmas.List.Elements.{All-head, All-tail}

-- it is found behind others that don't pass
pub found : {X : Type 0} (p : X → Bool) (before : List X) (x : X) (after : List X) →
    All (λ y. p y ≡ false) before → p x ≡ true → find p (before ++ x ∷ after) ≡ Some x
found p [] x after none passes = rw passes refl
found p (y ∷ ys) x after none passes =
    rw (All-head (λ z. p z ≡ false) y ys none)
    (found p ys x after (All-tail (λ z. p z ≡ false) y ys none) passes)

-- none is found where none passes
pub not_found : {X : Type 0} (p : X → Bool) (xs : List X) → All (λ y. p y ≡ false) xs →
    find p xs ≡ None
not_found p [] none = refl
not_found p (y ∷ ys) none =
    rw (All-head (λ z. p z ≡ false) y ys none)
    (not_found p ys (All-tail (λ z. p z ≡ false) y ys none))

picked : {X : Type 0} (b : Bool) (x : X) (o : Option X) (P : X → Type 0) → P x → IfSome o P →
    IfSome (cond b (Some x) o) P
picked true x o P h g = h
picked false x o P h g = g

-- what holds of all holds of it
pub found_keeps : {X : Type 0} (p : X → Bool) (P : X → Type 0) (xs : List X) → All P xs →
    IfSome (find p xs) P
found_keeps p P [] all = tt
found_keeps p P (x ∷ xs) all =
    picked (p x) x (find p xs) P (All-head P x xs all)
    (found_keeps p P xs (All-tail P x xs all))
