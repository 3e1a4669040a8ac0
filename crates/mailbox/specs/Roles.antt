-- Who sends and who receives at a mailbox, and what each end knows of the senders.
use Rattle.std.specs.Prelude.{◌≡◌, ℕ, ◌+◌, ◌<◌, ◌≤◌, ◌⊎◌, Bool, true, false, nat_eq}
use Rattle.std.specs.Prelude.{List, [], ◌∷◌, ◌++◌, if◌then◌else◌}
use mathlib.Core.Option.{some}
use lib.ListN.{get_elem?}
use Rattle.table_seats.specs.Seats.{Each}
use Rattle.mailbox.specs.declared.view.Role.{Role}

-- the number is one of these
abbrev pub In : ℕ → List ℕ → Type 0
In k [] = ⊥
In k (x ∷ xs) = (k ≡ x) ⊎ In k xs

-- no number stands twice
abbrev pub AreDistinct : List ℕ → Type 0
AreDistinct [] = Unit {0}
AreDistinct (x ∷ xs) = (In x xs → ⊥) × AreDistinct xs

-- number 0 and each other number that was made are among those joined
abbrev pub HasAll : ℕ → List ℕ → Type 0
HasAll made joined = In 0 joined × ((k : ℕ) → k < made → In k joined)

-- ---- roles
-- the first end does both, before the receiver's is cut off
abbrev pub first_role : Role
first_role = record { sends = true; gets = true; number = 0; made = 1; joined = [] }

abbrev pub sending_role : Role
sending_role = record { sends = true; gets = false; number = 0; made = 1; joined = [] }

abbrev pub receiving_role : Role
receiving_role = record { sends = false; gets = true; number = 0; made = 0; joined = [] }

-- an end that was joined into the receiver's
abbrev pub spent_role : Role
spent_role = record { sends = false; gets = false; number = 0; made = 0; joined = [] }

-- the sender of number 0 after a split
abbrev pub parent_role : Role → Role
parent_role r = record r { made = r.made + 1 }

-- the sender that a split makes
abbrev pub child_role : Role → Role
child_role r = record { sends = true; gets = false; number = r.made; made = 0; joined = [] }

-- how many senders the receiver knows to be made, once this one is joined
abbrev pub made_known : ℕ → ℕ → ℕ → ℕ
made_known number made before = if nat_eq number 0 then made else before

-- the receiver, into which a sender was joined
abbrev pub joined_role : Role → Role → Role
joined_role r s =
    record r { made = made_known s.number s.made r.made; joined = r.joined ++ s.number ∷ [] }

-- ---- the rule
-- Each number belongs to the seat of one sender, `seat`; the receiver's seat is `reader`; `made`
-- senders were made, and of these the `ended` were joined
pub record Fits (seat : ℕ → ℕ) (reader made : ℕ) (ended : ℕ → Bool) (id : ℕ) (r : Role) : Type 0
  where
    pub sender : r.sends ≡ true →
        (seat r.number ≡ id) × (r.number < made) × (ended r.number ≡ false)
    pub zero : r.sends ≡ true → r.number ≡ 0 → r.made ≡ made
    pub receiver : r.gets ≡ true → (reader ≡ id) × ((k : ℕ) → In k r.joined → ended k ≡ true)
    pub all_made : r.gets ≡ true → ended 0 ≡ true → r.made ≡ made
    pub once : r.gets ≡ true → AreDistinct r.joined

-- this end is the sender of this number
pub record IsSenderAt {V : Type 0} (role : V → Role) (views : List V) (id number : ℕ) : Type 0
  where
    pub end : V
    pub there : get_elem? views id ≡ some end
    pub sends : (role end).sends ≡ true
    pub numbered : (role end).number ≡ number

-- The ends of a mailbox have their roles, which `role` gives. Beside the receiver's these are one
-- for each number that was made and isn't joined: `seated` says that there is one, and `fits` that
-- there is no other
pub record Manned {V : Type 0} (role : V → Role) (views : List V) : Type 0 where
  pub seat : ℕ → ℕ
  pub reader : ℕ
  pub made : ℕ
  pub ended : ℕ → Bool
  pub started : 0 < made
  pub unmade : (k : ℕ) → made ≤ k → ended k ≡ false
  pub seated : (k : ℕ) → k < made → ended k ≡ false → IsSenderAt role views (seat k) k
  pub fits : Each (λ id v. Fits seat reader made ended id (role v)) views
