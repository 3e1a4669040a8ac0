-- What the code's ends need: slots that a pass has taken, and a pass that is inside.
use Rattle.std.proofs.Common.{◌≡◌, ℕ, true, List, ◌∷◌, length, refl, sym, ap, ◌∙◌}
use Rattle.atomic_table.specs.Table.{rest}
use Rattle.turn_lock.specs.declared.view.Turn.{Turn}
use Rattle.turn_lock.specs.declared.view.Turn.TheVariants.{Outside, Waits, Served, Joined}
use Rattle.turn_lock.specs.Places.{IsPlaced, longer, merged}
use Rattle.turn_lock.proofs.Lists.{placed_longer, merged_ascends}
use Rattle.turn_lock.specs.Turns.{Met, entered, is_inside}

-- a list with a first item is this item and the rest
pub first_and_rest : {A : Type 0} (xs ys : List (ℕ × A)) (x : ℕ × A) → xs ≡ x ∷ ys
    → xs ≡ x ∷ rest xs
first_and_rest xs ys x e = e ∙ ap (λ zs. x ∷ rest zs) (sym e)

-- who is inside has a ticket that is served
pub inside_served : {E : Type 0} (t : Turn E) → is_inside t ≡ true → (k : ℕ) ×
    (t ≡ Served k (entered t))
inside_served Outside h = absurd cc
inside_served (Waits n) h = absurd cc
inside_served (Served n list) h = (n, refl)
inside_served (Joined a b c d) h = absurd cc

-- the places of two passes in one, where both lists are beginnings of the longer and they have none
-- in common
pub placed_joined : {E : Type 0} (a b : List E) (c d : List ℕ) → Met (longer a b) (Joined a b c d)
    → IsPlaced a c → IsPlaced b d → IsPlaced (longer a b) (merged c d)
placed_joined a b c d met p q =
    merged_ascends 0 (length (longer a b)) c d (placed_longer a (longer a b) c met.0 p)
    (placed_longer b (longer a b) d met.1 q) met.2
