-- The list of a place as steps: each entry with its time and a position, as its number gives it.
use Rattle.std.proofs.Common.{◌≡◌, ◌≤◌, ℕ, ◌+◌, zero, suc, List, [], ◌∷◌, ◌++◌, refl, sym, ap, ◌∙◌}
use Rattle.std.proofs.Common.{subst, arith}
use Rattle.std.specs.Prelude.{slice_get, Some}
use mathlib.Core.List.{IsPrefix}
use Rattle.histories.specs.declared.entry.Entry.{Entry}
use Rattle.total_order.specs.Orders.{EachIs, Pairs, untimed}
use Rattle.total_order.specs.Steps.{Step}
use Rattle.total_order.specs.TotalOrder.{entries}
use Rattle.plane.proofs.RowSplits.{some_same}

-- an entry with this number
abbrev pub step_at : (ℕ → ℕ) → ℕ → Entry × ℕ → Step × ℕ
step_at at i x = (record { entry = x.0; at = at i }, x.1)

-- the entries of a list, the first of which has number i
abbrev pub steps : (ℕ → ℕ) → ℕ → List (Entry × ℕ) → List (Step × ℕ)
steps at i [] = []
steps at i (x ∷ xs) = step_at at i x ∷ steps at (suc i) xs

-- without positions and times they are the list's entries
pub entries_of : (at : ℕ → ℕ) (i : ℕ) (xs : List (Entry × ℕ)) →
    entries (untimed (steps at i xs)) ≡ untimed xs
entries_of at i [] = refl
entries_of at i (x ∷ xs) = ap (λ (es : List Entry). x.0 ∷ es) (entries_of at (suc i) xs)

-- what begins a list begins its steps
front_on : (at : ℕ → ℕ) (i : ℕ) (xs rest : List (Entry × ℕ)) →
    IsPrefix (steps at i xs) (steps at i (xs ++ rest))
front_on at i [] rest = (steps at i rest, refl)
front_on at i (x ∷ xs) rest =
    let on = front_on at (suc i) xs rest in
    (on.0, ap (λ (l : List (Step × ℕ)). step_at at i x ∷ l) on.1)

-- the same of any two lists
pub steps_begin : (at : ℕ → ℕ) (i : ℕ) (xs ys : List (Entry × ℕ)) → IsPrefix xs ys →
    IsPrefix (steps at i xs) (steps at i ys)
steps_begin at i xs ys begins =
    subst (λ (l : List (Entry × ℕ)). IsPrefix (steps at i xs) (steps at i l)) begins.1
    (front_on at i xs begins.0)

-- a fact of each entry and its time is one of each step
pub each_step : (P : Entry × ℕ → Type 0) (Q : Step × ℕ → Type 0) (at : ℕ → ℕ) →
    ((i : ℕ) (x : Entry × ℕ) → P x → Q (step_at at i x)) → (i : ℕ) (xs : List (Entry × ℕ)) →
    EachIs P xs → EachIs Q (steps at i xs)
each_step P Q at goes i [] all = tt
each_step P Q at goes i (x ∷ xs) all =
    (goes i x all.0, each_step P Q at goes (suc i) xs all.1)

-- times that never descend go on to
pub steps_rise : (at : ℕ → ℕ) (i : ℕ) (xs : List (Entry × ℕ)) →
    Pairs (λ x y. x.1 ≤ y.1) xs → Pairs (λ x y. x.1 ≤ y.1) (steps at i xs)
steps_rise at i [] rise = tt
steps_rise at i (x ∷ xs) rise = (
  each_step (λ y. x.1 ≤ y.1) (λ y. x.1 ≤ y.1) at (λ j y l. l) (suc i) xs rise.0,
  steps_rise at (suc i) xs rise.1,
)

-- a step is that of the entry with its number
pub step_is : (at : ℕ → ℕ) (i n j : ℕ) (xs : List (Entry × ℕ)) (s : Step × ℕ) → i + j ≡ n →
    slice_get (steps at i xs) j ≡ Some s →
    (x : Entry × ℕ) × (slice_get xs j ≡ Some x) × (step_at at n x ≡ s)
step_is at i n j [] s sum here = absurd (cc here)
step_is at i n zero (x ∷ xs) s sum here =
    let same : i ≡ n = omega (arith, sum) in
    (x, refl, ap (λ m. step_at at m x) (sym same) ∙ some_same (step_at at i x) s here)
step_is at i n (suc j) (x ∷ xs) s sum here =
    step_is at (suc i) n j xs s (omega (arith, sum)) here

module _ {A : Type 0} (P : A → Type 0) where
  -- what holds at each number holds of each
  pub each_by : (xs : List A) → ((i : ℕ) (x : A) → slice_get xs i ≡ Some x → P x) → EachIs P xs
  each_by [] all = tt
  each_by (x ∷ xs) all = (all zero x refl, each_by xs (λ i y here. all (suc i) y here))

module _ {A : Type 0} where
  -- what begins a list has at each number what the list has
  pub get_front : (xs ys : List A) (i : ℕ) (x : A) → IsPrefix xs ys → slice_get xs i ≡ Some x →
      slice_get ys i ≡ Some x
  get_front xs ys i x begins here =
      subst (λ (l : List A). slice_get l i ≡ Some x) begins.1 (go xs i here)
    where
      go : (zs : List A) (k : ℕ) → slice_get zs k ≡ Some x →
          slice_get (zs ++ begins.0) k ≡ Some x
      go [] k at = absurd (cc at)
      go (z ∷ zs) zero at = at
      go (z ∷ zs) (suc k) at = go zs k at
