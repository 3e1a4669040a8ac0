-- What is told of each port and each queue, in rows, of which the first is taken again and again.
use Rattle.std.specs.Prelude.{◌≡◌, ℕ, List, [], ◌∷◌, ◌++◌, Option, Some, None, false, true, ⊤}
use Rattle.std.specs.Prelude.{Bool, option_to_list, IsNone, IsSome, nat_eq, ◌==◌, if◌then◌else◌}
use Rattle.std.specs.List.{list_any}
use Rattle.std.specs.BTreeMap.{BTreeMap, get, is_at}
use Rattle.std.specs.Ordering.{nat_cmp, ordering_then}
use Rattle.std.specs.declared.cmp.Ordering.{Ordering}
use Rattle.queue_core.specs.State.{Bound}
use Rattle.queue_core.specs.Step.{step}
use Rattle.histories.specs.declared.entry.Entry.{Entry}
use Rattle.histories.specs.History.{history}
use Rattle.port_audit.specs.declared.dealing.Side.{Side}

-- by the port, and then by the queue
abbrev pub side_cmp : Side → Side → Ordering
side_cmp a b = ordering_then (nat_cmp a.port b.port) (nat_cmp a.queue b.queue)

abbrev pub side : ℕ → ℕ → Side
side port queue = record { port = port; queue = queue }

abbrev pub RowMap : Type 0 → Type 0
RowMap T = BTreeMap Side (List T)

-- what is kept; nothing, where no row is
abbrev pub row_in : {T : Type 0} → Option (List T) → List T
row_in {T} None = []
row_in {T} (Some row) = row

abbrev pub row_at : {T : Type 0} → RowMap T → Side → List T
row_at {T} rows s = row_in (get side_cmp rows s)

-- no row is kept that is empty
abbrev pub IsKept : {T : Type 0} → Option (List T) → Type 0
IsKept {T} None = ⊤
IsKept {T} (Some []) = ⊥
IsKept {T} (Some (x ∷ xs)) = ⊤

abbrev pub AreKept : {T : Type 0} → RowMap T → Type 0
AreKept {T} rows = (s : Side) → IsKept (get side_cmp rows s)

-- the other rows stay as they were
abbrev pub KeepsOthers : {T : Type 0} → Side → RowMap T → RowMap T → Type 0
KeepsOthers {T} at old new = (s : Side) → is_at (side_cmp at) s ≡ false →
    get side_cmp new s ≡ get side_cmp old s

-- a row is there, as it was or empty
pub record Opens {T : Type 0} (at : Side) (old new : RowMap T) : Type 0 where
  pub own : row_at new at ≡ row_at old at
  pub there : IsSome (get side_cmp new at)
  pub others : KeepsOthers at old new

-- a row has one more
pub record Pushes {T : Type 0} (at : Side) (x : T) (old new : RowMap T) : Type 0 where
  pub own : row_at new at ≡ row_at old at ++ x ∷ []
  pub others : KeepsOthers at old new

-- the first of a row is taken
pub record Takes {T : Type 0} (at : Side) (x : T) (old new : RowMap T) : Type 0 where
  pub own : row_at old at ≡ x ∷ row_at new at
  pub others : KeepsOthers at old new
  pub left : IsKept (get side_cmp new at)

-- no row is there
abbrev pub IsTaken : {T : Type 0} → Side → RowMap T → RowMap T → Option T → Type 0
IsTaken {T} at old new None = row_at old at ≡ []
IsTaken {T} at old new (Some x) = Takes at x old new

-- the first of a row is taken, if there is one; the row may be left empty
pub record TakesFirst {T : Type 0} (at : Side) (old new : RowMap T) (first : Option T)
    : Type 0 where
  pub own : row_at old at ≡ option_to_list first ++ row_at new at
  pub none : IsNone first → row_at old at ≡ []
  pub others : KeepsOthers at old new

-- a row is kept that is empty
abbrev pub is_empty_row : {T : Type 0} → Option (List T) → Bool
is_empty_row {T} None = false
is_empty_row {T} (Some []) = true
is_empty_row {T} (Some (x ∷ xs)) = false

abbrev pub is_left : {T : Type 0} → Side → RowMap T → Bool
is_left {T} at rows = is_empty_row (get side_cmp rows at)

-- the first of a row is this, and is taken; or it is another one, or there is none
abbrev pub IsMet : {T : Type 0} → Side → T → RowMap T → RowMap T → Bool → Type 0
IsMet {T} at x old new true = Takes at x old new
IsMet {T} at x old new false = (xs : List T) → row_at old at ≡ x ∷ xs → ⊥

-- the rows have more of one port, queue by queue
abbrev pub GrowsBy : {T : Type 0} → ℕ → (ℕ → List T) → RowMap T → RowMap T → Type 0
GrowsBy {T} port more old new = (p queue : ℕ) →
    row_at new (side p queue)
    ≡ row_at old (side p queue) ++ (if p == port then more queue else [])

-- what is told of one of these ports; nothing of others
abbrev pub told_of : {T : Type 0} → List ℕ → (ℕ → ℕ → List T) → ℕ → ℕ → List T
told_of {T} ports told p queue = if list_any (nat_eq p) ports then told p queue else []

-- the rows have what is told of these ports, and no row is empty
pub record AreDealt {T : Type 0} (ports : List ℕ) (told : ℕ → ℕ → List T) (rows : RowMap T)
    : Type 0 where
  pub are : (p queue : ℕ) → row_at rows (side p queue) ≡ told_of ports told p queue
  pub kept : AreKept rows

-- what entries bring of a port, one after the other, from a state of the queue on
abbrev pub brought_from : {T : Type 0} → (ℕ → Option Bound → Entry → List T) → ℕ → Option Bound →
    List Entry → List T
brought_from {T} news p q [] = []
brought_from {T} news p q (e ∷ es) = news p q e ++ brought_from news p (step q e.event).state es

-- in each queue's history just that is brought of these ports which is told of them, and nothing of
-- others
abbrev pub AreMet : {T : Type 0} → List ℕ → (ℕ → ℕ → List T) →
    (ℕ → Option Bound → Entry → List T) → List Entry → Type 0
AreMet {T} ports told news es = (p queue : ℕ) →
    told_of ports told p queue ≡ brought_from news p None (history queue es)
