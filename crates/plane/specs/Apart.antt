-- Ports of which no two are the same: there is one proof of that at most.
use Rattle.std.specs.Prelude.{ℕ, List, [], ◌∷◌}
use Rattle.std.specs.Coded.{×_prop, Unit-prop}
use mathlib.Core.HLevel.{Π_prop, ⊥_prop}
use Rattle.mailbox.specs.Roles.{AreDistinct}

pub AreDistinct-prop : (ports : List ℕ) → IsProp (AreDistinct ports)
AreDistinct-prop [] = Unit-prop
AreDistinct-prop (port ∷ ports) = ×_prop (Π_prop λ _. ⊥_prop) (AreDistinct-prop ports)
