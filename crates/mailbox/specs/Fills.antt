-- The word that counts the letters of a mailbox: what each end knows of it, its rule, and what each
-- step makes of it and tells.
use Rattle.std.specs.Prelude.{◌≡◌, ◌≢◌, ℕ, ◌+◌, ◌<◌, ◌≤◌, true, false, [], ◌∷◌, sum_by}
use Rattle.atomic_table.specs.Table.{State, Me, Step}
use Rattle.table_seats.specs.Seats.{Each}
use Rattle.mailbox.specs.declared.view.Role.{Role}
use Rattle.mailbox.specs.declared.view.Fill.{Fill}
use Rattle.mailbox.specs.Roles.{HasAll, Manned, first_role, sending_role}
use Rattle.mailbox.specs.Roles.{receiving_role, spent_role, parent_role, child_role, joined_role}

-- an end that has claimed and freed nothing
abbrev pub fill_of : Role → ℕ → Fill
fill_of role capacity =
    record { role = role; capacity = capacity; claims = 0; full = 0; freed = 0; empty = 0 }

abbrev pub first_fill : ℕ → Fill
first_fill capacity = fill_of first_role capacity

abbrev pub sending_fill : ℕ → Fill
sending_fill capacity = fill_of sending_role capacity

abbrev pub receiving_fill : ℕ → Fill
receiving_fill capacity = fill_of receiving_role capacity

abbrev pub spent_fill : Fill
spent_fill = fill_of spent_role 0

abbrev pub parent_fill : Fill → Fill
parent_fill v = record v { role = parent_role v.role }

abbrev pub child_fill : Fill → Fill
child_fill v = fill_of (child_role v.role) v.capacity

-- room was claimed
abbrev pub claiming : Fill → Fill
claiming v = record v { claims = v.claims + 1 }

-- room was freed
abbrev pub freeing : Fill → Fill
freeing v = record v { freed = v.freed + 1 }

-- the mailbox was found full
abbrev pub full_look : Fill → Fill
full_look v = record v { full = v.full + 1 }

-- the mailbox was found empty
abbrev pub empty_look : Fill → Fill
empty_look v = record v { empty = v.empty + 1 }

-- a sender was joined into the receiver
abbrev pub joined_fill : Fill → Fill → Fill
joined_fill v w =
    record v {
      role = joined_role v.role w.role;
      claims = v.claims + w.claims;
      full = v.full + w.full;
    }

-- what an end knows of the capacity, and where its counts are none
pub record Counting (capacity : ℕ) (v : Fill) : Type 0 where
  pub sends : v.role.sends ≡ true → v.capacity ≡ capacity
  pub gets : v.role.gets ≡ true → v.capacity ≡ capacity
  pub quiet : v.role.gets ≡ false → v.freed ≡ 0
  pub idle : v.role.sends ≡ false → v.role.gets ≡ false → v.claims ≡ 0

-- The rule of the word: it is what was claimed and not freed, and at most the capacity; where an
-- end found the mailbox full, at least so much was claimed
pub record Counts (capacity : ℕ) (s : State ℕ Fill) : Type 0 where
  pub ends : Manned (λ (v : Fill). v.role) s.views
  pub word : ℕ
  pub words : s.words ≡ word ∷ []
  pub bound : word ≤ capacity
  pub counted : word + sum_by (λ v. v.freed) s.views ≡ sum_by (λ v. v.claims) s.views
  pub was_full : Each (λ id v. 0 < v.full → capacity ≤ sum_by (λ u. u.claims) s.views) s.views
  pub each : Each (λ id v. Counting capacity v) s.views

-- ---- what each step tells
-- a seat, as the table sees it
abbrev pub Sat : Type 0
Sat = Me ℕ Fill

-- the word is at most the capacity; the look counts where it found so many letters
abbrev pub LooksForRoom : Step ℕ → Sat → ℕ → Sat → Type 0
LooksForRoom s m found m' =
    (found ≤ m.0.capacity) × (found ≡ m.0.capacity → m' ≡ (full_look m.0, m.1))
    × (found ≢ m.0.capacity → m' ≡ m)

-- once all senders are joined, an empty mailbox is one from which all that was claimed was freed;
-- the look counts where it found no letter
abbrev pub LooksForLetters : Step ℕ → Sat → ℕ → Sat → Type 0
LooksForLetters s m found m' =
    (found ≡ 0 → (m' ≡ (empty_look m.0, m.1))
    × (HasAll m.0.role.made m.0.role.joined → m.0.claims ≡ m.0.freed))
    × (found ≢ 0 → m' ≡ m)

-- room was claimed, or nothing changed
abbrev pub Claims : Step ℕ → Sat → ℕ → Sat → Type 0
Claims s m found m' =
    (found ≡ s.first → m' ≡ (claiming m.0, m.1)) × (found ≢ s.first → m' ≡ m)

-- room was freed, or nothing changed
abbrev pub Frees : Step ℕ → Sat → ℕ → Sat → Type 0
Frees s m found m' =
    (found ≡ s.first → m' ≡ (freeing m.0, m.1)) × (found ≢ s.first → m' ≡ m)

-- once all senders are joined, where one found the mailbox full, so much was claimed
abbrev pub Learns : Step ℕ → Sat → ℕ → Sat → Type 0
Learns s m found m' =
    (m' ≡ m)
    × (HasAll m.0.role.made m.0.role.joined → 0 < m.0.full → m.0.capacity ≤ m.0.claims)
