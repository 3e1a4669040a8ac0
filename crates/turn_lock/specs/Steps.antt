-- What each step on the lock's words tells the pass that makes it, of its seat before (`m`) and
-- after (`m'`): its view, and the slots that it has taken, each with its value.
use Rattle.std.specs.Prelude.{◌≡◌, ◌≢◌, ℕ, List, [], ◌∷◌, Option, Some, None}
use mathlib.Core.List.{IsPrefix}
use Rattle.atomic_table.specs.Table.{Me, Step, rest}
use Rattle.turn_lock.specs.declared.view.View.{View}
use Rattle.turn_lock.specs.declared.view.Turn.TheVariants.{Outside, Waits, Served}
use Rattle.turn_lock.specs.Turns.{Met, ticket_no}
use Rattle.turn_lock.specs.Views.{with_turn, left_view, label_of, HasSeenOwn}

-- a pass, as the table sees it
abbrev pub Sat : Type 0 → Type 0 → Type 0
Sat S E = Me (Option S) (View E S)

-- the list of the state that the seat gives back
abbrev pub list_given : {E S : Type 0} → (S → List E) → List (ℕ × Option S) → List E
list_given entries [] = []
list_given entries ((k, None) ∷ xs) = []
list_given entries ((k, Some state) ∷ xs) = entries state

module _ {E S : Type 0} where
  -- the pass drew the ticket that it expected, or nothing changed
  abbrev pub Draws : Step (Option S) → Sat S E → ℕ → Sat S E → Type 0
  Draws s m found m' =
      (found ≡ s.first → m' ≡ (with_turn m.0 (Waits found), m.1)) × (found ≢ s.first → m' ≡ m)

  -- nothing changed
  abbrev pub Peeks : Step (Option S) → Sat S E → ℕ → Sat S E → Type 0
  Peeks s m found m' = m' ≡ m

  -- both passes' lists were beginnings of one list, and they had no place in common
  abbrev pub Tells : Step (Option S) → Sat S E → ℕ → Sat S E → Type 0
  Tells s m found m' = (m' ≡ (with_turn m.0 Outside, m.1)) × Met m.0.seen m.0.turn

  -- the pass has seen the list that it left, and its new places are places of it
  abbrev pub PassesOn : (S → List E) → Step (Option S) → Sat S E → ℕ → Sat S E → Type 0
  PassesOn entries s m found m' =
      (m' ≡ (left_view m.0 (list_given entries m.1), rest m.1)) × HasSeenOwn m'.0

module _ {E S L : Type 0} where
  -- the pass, whose ticket is served, took the state, whose list begins with all that the pass had
  -- seen and which has the pass's label
  abbrev pub TakesState : (S → List E) → (S → L) → Sat S E → ℕ → Sat S E → Type 0
  TakesState entries label m ticket m' =
      (x : S)
      × (m' ≡ (with_turn m.0 (Served ticket (entries x)), (0, Some x) ∷ m.1))
      × IsPrefix m.0.seen (entries x)
      × (label_of label m.0 ≡ Some (label x))

  -- the pass took the state where its ticket is the one found, or nothing changed
  abbrev pub Looks : (S → List E) → (S → L) → Step (Option S) → Sat S E → ℕ → Sat S E → Type 0
  Looks entries label s m found m' =
      (found ≡ ticket_no m.0.turn → TakesState entries label m found m')
      × (found ≢ ticket_no m.0.turn → m' ≡ m)
