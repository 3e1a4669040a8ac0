-- Where a pass stands with its turn: what it then knows of tickets and of the list.
use Rattle.std.specs.Prelude.{◌≡◌, ℕ, ◌<◌, ◌≤◌, Bool, true, false, List, []}
use mathlib.Core.List.{IsPrefix}
use Rattle.turn_lock.specs.declared.view.Turn.{Turn}
use Rattle.turn_lock.specs.declared.view.Turn.TheVariants.{Outside, Waits, Served, Joined}
use Rattle.turn_lock.specs.Places.{NoneInCommon}

module _ {E : Type 0} where
  -- it has this ticket, served or not
  abbrev pub HoldsTicket : ℕ → Turn E → Type 0
  HoldsTicket k Outside = ⊥
  HoldsTicket k (Waits n) = k ≡ n
  HoldsTicket k (Served n list) = k ≡ n
  HoldsTicket k (Joined a b c d) = ⊥

  -- it has the state
  abbrev pub IsServed : Turn E → Type 0
  IsServed Outside = ⊥
  IsServed (Waits n) = ⊥
  IsServed (Served n list) = Unit {0}
  IsServed (Joined a b c d) = ⊥

  -- a ticket that waits is from the one being served on, and was drawn; the ticket that is served
  -- is the one being served, and the list that was entered is the lock's
  abbrev pub Fits : List E → ℕ → ℕ → Turn E → Type 0
  Fits history serving ticket Outside = Unit {0}
  Fits history serving ticket (Waits n) = (serving ≤ n) × (n < ticket)
  Fits history serving ticket (Served n list) = (n ≡ serving) × (n < ticket) × (list ≡ history)
  Fits history serving ticket (Joined a b c d) = Unit {0}

  -- between the two steps of a join: the list continues both lists that were joined, and the two
  -- passes had no place of their own in common
  abbrev pub Met : List E → Turn E → Type 0
  Met seen Outside = Unit {0}
  Met seen (Waits n) = Unit {0}
  Met seen (Served n list) = Unit {0}
  Met seen (Joined a b c d) = IsPrefix a seen × IsPrefix b seen × NoneInCommon c d

  -- the ticket, where it waits or is served; else 0
  abbrev pub ticket_no : Turn E → ℕ
  ticket_no Outside = 0
  ticket_no (Waits n) = n
  ticket_no (Served n list) = n
  ticket_no (Joined a b c d) = 0

  -- the list that was entered, inside a turn
  abbrev pub entered : Turn E → List E
  entered Outside = []
  entered (Waits n) = []
  entered (Served n list) = list
  entered (Joined a b c d) = []

  -- a turn is going on
  abbrev pub is_inside : Turn E → Bool
  is_inside Outside = false
  is_inside (Waits n) = false
  is_inside (Served n list) = true
  is_inside (Joined a b c d) = false
