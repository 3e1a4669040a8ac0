-- The slots that a pass has taken, by where it stands with its turn.
use Rattle.std.specs.Prelude.{◌≡◌, ℕ, List, [], ◌∷◌, Option, None}
use Rattle.std.specs.Coded.{Coded, Coded-set, coded×, coded_ℕ, coded_list, coded_option}
use Rattle.atomic_table.specs.Table.{Me}
use Rattle.turn_lock.specs.declared.view.View.{View}
use Rattle.turn_lock.specs.declared.view.Turn.{Turn}
use Rattle.turn_lock.specs.declared.view.Turn.TheVariants.{Outside, Waits, Served, Joined}

-- the slot of the state, which is empty, while it is inside
abbrev pub carried : {E S : Type 0} → Turn E → List (ℕ × Option S)
carried Outside = []
carried (Waits n) = []
carried (Served n list) = (0, None) ∷ []
carried (Joined a b c d) = []

-- a seat has taken just these
abbrev pub Carries : {E S : Type 0} → Me (Option S) (View E S) → Type 0
Carries m = m.1 ≡ carried m.0.turn

pub Carries-prop : {E S : Type 0} → Coded S → (m : Me (Option S) (View E S)) → IsProp (Carries m)
Carries-prop code m =
    Coded-set (coded_list (coded× coded_ℕ (coded_option code))) m.1 (carried m.0.turn)
