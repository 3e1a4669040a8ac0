-- For proofs alone: the entries that are left of each queue's history, by their places among all.
use Rattle.std.specs.Prelude.{◌≡◌, ℕ, List, [], ◌∷◌, ◌++◌, Option, Some, None, false, slice_get}
use Rattle.std.specs.Prelude.{take}
use Rattle.std.specs.BTreeMap.{BTreeMap, get, is_at}
use Rattle.std.specs.Ordering.{nat_cmp}
use Rattle.histories.specs.declared.entry.Entry.{Entry}
use Rattle.histories.specs.History.{history}

abbrev pub RowMap : Type 0
RowMap = BTreeMap ℕ (List ℕ)

-- the places that are kept of a queue; none of one that isn't kept
abbrev pub places_in : Option (List ℕ) → List ℕ
places_in None = []
places_in (Some places) = places

abbrev pub places_of : RowMap → ℕ → List ℕ
places_of rows queue = places_in (get nat_cmp rows queue)

-- at these places are these entries, which come after this much of a queue's history
abbrev pub AreAt : List Entry → ℕ → List Entry → List ℕ → List Entry → Type 0
AreAt es queue before [] [] = Unit {0}
AreAt es queue before [] (h ∷ hs) = ⊥
AreAt es queue before (p ∷ ps) [] = ⊥
AreAt es queue before (p ∷ ps) (h ∷ hs) =
    (slice_get es p ≡ Some h) × (history queue (take p es) ≡ before)
    × AreAt es queue (before ++ h ∷ []) ps hs

-- the first of these places, and the entry there
abbrev pub first_in : List ℕ → Option ℕ
first_in [] = None
first_in (p ∷ ps) = Some p

abbrev pub entry_at : List Entry → Option ℕ → Option Entry
entry_at es None = None
entry_at es (Some place) = slice_get es place

-- a place more of a queue
pub record Lengthens (old new : RowMap) (queue place : ℕ) : Type 0 where
  pub own : places_of new queue ≡ places_of old queue ++ place ∷ []
  pub others : (q : ℕ) → is_at (nat_cmp queue) q ≡ false → get nat_cmp new q ≡ get nat_cmp old q

-- the first of a queue is gone
pub record Shortens (old new : RowMap) (queue : ℕ) : Type 0 where
  pub own : (p : ℕ) (ps : List ℕ) → places_of old queue ≡ p ∷ ps → places_of new queue ≡ ps
  pub others : (q : ℕ) → is_at (nat_cmp queue) q ≡ false → get nat_cmp new q ≡ get nat_cmp old q
