-- The rule of the lock: what holds of its two words, of the slot for the state, and of what all
-- passes know, between any two steps.
use Rattle.std.specs.Prelude.{◌≡◌, ◌≢◌, ℕ, ◌<◌, ◌≤◌, ◌⊎◌, false, List, [], ◌∷◌, length}
use Rattle.std.specs.Prelude.{Option, Some}
use mathlib.Core.Option.{none, some}
use mathlib.Core.Option as place
use mathlib.Core.List.{IsPrefix}
use lib.ListN.{get_elem?}
use Rattle.atomic_table.specs.Table.{State}
use Rattle.turn_lock.specs.declared.view.View.{View}
use Rattle.turn_lock.specs.Parts.{void, Apart}
use Rattle.turn_lock.specs.Places.{In, NoneInCommon}
use Rattle.turn_lock.specs.Turns.{HoldsTicket, IsServed, Fits, Met}
use Rattle.turn_lock.specs.Views.{HasSeenOwn, label_of}

module _ {E S : Type 0} where
  -- the pass wasn't joined into another
  abbrev pub IsUnspent : View E S → Type 0
  IsUnspent v = void v.part ≡ false

  -- some unspent pass is like that
  abbrev pub Somewhere : (View E S → Type 0) → List (View E S) → Type 0
  Somewhere P views =
      (i : ℕ) × (v : View E S) × (get_elem? views i ≡ some v) × IsUnspent v × P v

  -- each unspent pass is like that
  abbrev pub Everywhere : (View E S → Type 0) → List (View E S) → Type 0
  Everywhere P views = (i : ℕ) (v : View E S) → get_elem? views i ≡ some v → IsUnspent v → P v

  -- each two unspent passes are like that
  abbrev pub Pairwise : (View E S → View E S → Type 0) → List (View E S) → Type 0
  Pairwise D views =
      (i j : ℕ) (v w : View E S) → i ≢ j → get_elem? views i ≡ some v → get_elem? views j ≡ some w
      → IsUnspent v → IsUnspent w → D v w

  -- two passes have no part, no place and no ticket in common
  pub record Differ (v w : View E S) : Type 0 where
    pub parts : Apart v.part w.part
    pub places : NoneInCommon v.own w.own
    pub tickets : (k : ℕ) → HoldsTicket k v.turn → HoldsTicket k w.turn → ⊥

module _ {E S L : Type 0} (label : S → L) (key : S) where
  -- a pass has seen a beginning of the history, knows the label, and its own places are places of
  -- what it has seen
  pub record Stands (history : List E) (serving ticket : ℕ) (v : View E S) : Type 0 where
    pub begins : IsPrefix v.seen history
    pub named : label_of label v ≡ Some (label key)
    pub placed : HasSeenOwn v
    pub turn : Fits history serving ticket v.turn
    pub met : Met v.seen v.turn

-- the slots of the table, each with its value, or with none while a seat has taken it
abbrev pub Homes : Type 0 → Type 0
Homes S = List (place.Option (Option S))

module _ {E S L : Type 0} (entries : S → List E) (label : S → L) (key : S) where
  -- the slot has a state that stands for the history, and it has the label
  abbrev pub IsHome : List E → Homes S → Type 0
  IsHome history homes =
      (x : S) × (homes ≡ some (Some x) ∷ []) × (entries x ≡ history) × (label x ≡ label key)

-- the state is out with the pass that is served
abbrev pub IsAway : {E S : Type 0} → Homes S → List (View E S) → Type 0
IsAway homes views = (homes ≡ none ∷ []) × Somewhere (λ v. IsServed v.turn) views

-- the words have 64 bits, and the number of tickets drawn doesn't wrap
abbrev pub ticket_limit : ℕ
ticket_limit = 18446744073709551616

-- What the lock keeps; `key` is the state that it was made with
pub record Kept {E S L : Type 0} (entries : S → List E) (label : S → L) (key : S)
    (s : State (Option S) (View E S)) : Type 0 where
  -- the list that the last turn left
  pub history : List E
  -- how many tickets were drawn, and the one being served
  pub ticket : ℕ
  pub serving : ℕ
  pub words : s.words ≡ ticket ∷ serving ∷ []
  pub fits : ticket < ticket_limit
  pub ordered : serving ≤ ticket
  pub each : Everywhere (Stands label key history serving ticket) s.views
  pub two : Pairwise Differ s.views
  -- each place of the history was appended by some pass
  pub owned : (k : ℕ) → k < length history → Somewhere (λ v. In k v.own) s.views
  -- each ticket that was drawn and not yet served is with some pass
  pub out : (k : ℕ) → serving ≤ k → k < ticket → Somewhere (λ v. HoldsTicket k v.turn) s.views
  pub slot : IsHome entries label key history s.homes ⊎ IsAway s.homes s.views
