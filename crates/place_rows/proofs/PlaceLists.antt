-- Lists of places: no queue is at two of them.
use Rattle.std.proofs.Common.{◌≡◌, ◌≢◌, ◌<◌, ◌+◌, ℕ, zero, suc, List, [], ◌∷◌, ◌++◌}
use Rattle.std.proofs.Common.{length, refl, sym, ap, ◌∙◌, subst, arith, inl, inr, append-nil}
use Rattle.std.proofs.Common.{append_assoc}
use Rattle.std.specs.Prelude.{slice_get, Some, All, nat_eq, sum_by}
use Rattle.std.proofs.lemmas.List.Elements.{filter-append}
use Rattle.std.proofs.lemmas.List.Sums.{sum_by-cons, sum_by-append}
use Rattle.std.proofs.lemmas.Bool.{cases_Bool, eqb-true, eqb-false}
use Rattle.queue_core.specs.Step.{step}
use Rattle.histories.specs.declared.entry.Entry.{Entry}
use Rattle.histories.specs.History.{history, is_of, replay, IsLegal, AreLegal}
use Rattle.histories.specs.Moves.{Move, moves, moves_after, move_after}
use Rattle.histories.specs.Places.{place_for}
use Rattle.place_history.specs.PlaceState.{AreHere}
use Rattle.place_rows.specs.Lists.{Every, AllFrom, flat}
use Rattle.place_rows.proofs.Lists.{one_item}
use Rattle.place_rows.proofs.ItemSums.{moves_longer}

-- ---- lists by number

pub at_from : {X : Type 0} (P : ℕ → X → Type 0) (n k : ℕ) (xs : List X) → AllFrom P n xs →
    k < length xs → (x : X) × ((slice_get xs k ≡ Some x) × P (n + k) x)
at_from P n k [] all few = absurd (omega (arith, few))
at_from P n zero (x ∷ xs) all few = (x, (refl, subst (λ m. P m x) (omega arith) all.0))
at_from P n (suc k) (x ∷ xs) all few =
    let rest = at_from P (n + 1) k xs all.1 (omega (arith, few)) in
    (rest.0, (rest.1.0, subst (λ m. P m rest.0) (omega arith) rest.1.1))

pub every_of : {X : Type 0} (P : X → Type 0) (xs : List X) → All P xs → Every P xs
every_of P [] all = tt
every_of P (x ∷ xs) all =
    (all 0 x (omega arith), every_of P xs (λ k d h. all (suc k) d (omega (arith, h))))

-- ---- where a queue's entries are

none_elsewhere : (places k queue : ℕ) (es : List Entry) →
    Every (λ (e : Entry). place_for e.queue places ≡ k) es → place_for queue places ≢ k → history
    queue es ≡ []
none_elsewhere places k queue [] all other = refl
none_elsewhere places k queue (e ∷ es) all other =
    elim (cases_Bool (is_of queue e)) [
      | inl same ↦ absurd (other (ap (λ q. place_for q places) (sym (eqb-true e.queue queue same))
          ∙ all.0))
      | inr not_so ↦ rw not_so (none_elsewhere places k queue es all.1 other)
    ]

pub not_here : (places k queue : ℕ) (es : List Entry) → AreHere places k es →
    place_for queue places ≢ k → history queue es ≡ []
not_here places k queue es here other =
    none_elsewhere places k queue es
    (every_of (λ (e : Entry). place_for e.queue places ≡ k) es here) other

pub none_behind : (places n queue : ℕ) (lists : List (List Entry)) →
    AllFrom (AreHere places) n lists → place_for queue places < n → history queue (flat lists) ≡ []
none_behind places n queue [] all low = refl
none_behind places n queue (l ∷ ls) all low =
    filter-append (is_of queue) l (flat ls)
    ∙ ap (λ (h : List Entry). h ++ history queue (flat ls))
    (not_here places n queue l all.0 (λ e. absurd (omega (arith, low, e))))
    ∙ none_behind places (n + 1) queue ls all.1 (omega (arith, low))

-- a queue's entries among all are those of its place
pub flat_at : (places n k queue : ℕ) (lists : List (List Entry)) (l : List Entry) →
    AllFrom (AreHere places) n lists → place_for queue places ≡ n + k → slice_get lists k ≡ Some l →
    history queue (flat lists) ≡ history queue l
flat_at places n k queue [] l all is at = absurd (cc at)
flat_at places n zero queue (x ∷ ls) l all is at =
    filter-append (is_of queue) x (flat ls)
    ∙ ap (λ (h : List Entry). history queue x ++ h)
    (none_behind places (n + 1) queue ls all.1 (omega (arith, is)))
    ∙ append-nil (history queue x) ∙ ap (history queue) (one_item x l at)
flat_at places n (suc k) queue (x ∷ ls) l all is at =
    filter-append (is_of queue) x (flat ls)
    ∙ ap (λ (h : List Entry). h ++ history queue (flat ls))
    (not_here places n queue x all.0 (λ e. absurd (omega (arith, is, e))))
    ∙ flat_at places (n + 1) k queue ls l all.1 (omega (arith, is)) at

-- one list more, before the others or behind them
pub either_end : (places n queue : ℕ) (list : List Entry) (lists : List (List Entry)) →
    AllFrom (AreHere places) n (list ∷ lists) →
    history queue (flat lists) ++ history queue list
    ≡ history queue list ++ history queue (flat lists)
either_end places n queue list lists all =
    elim (cases_Bool (nat_eq (place_for queue places) n)) [
      | inl own ↦ (let none = none_behind places (n + 1) queue lists all.1
          (omega (arith, eqb-true (place_for queue places) n own)) in
          ap (λ (h : List Entry). h ++ history queue list) none
          ∙ sym (append-nil (history queue list))
          ∙ sym (ap (λ (h : List Entry). history queue list ++ h) none))
      | inr other ↦ (let none = not_here places n queue list all.0
          (λ e. eqb-false (place_for queue places) n other e) in
          ap (λ (h : List Entry). history queue (flat lists) ++ h) none
          ∙ append-nil (history queue (flat lists))
          ∙ sym (ap (λ (h : List Entry). h ++ history queue (flat lists)) none))
    ]

-- ---- legal

pub legal_from : (places n : ℕ) (lists : List (List Entry)) → AllFrom (AreHere places) n lists →
    Every AreLegal lists → AreLegal (flat lists)
legal_from places n [] all legal queue = tt
legal_from places n (l ∷ ls) all legal queue =
    subst IsLegal (sym (filter-append (is_of queue) l (flat ls)))
    (elim (cases_Bool (nat_eq (place_for queue places) n)) [
      | inl own ↦ (let none = none_behind places (n + 1) queue ls all.1
          (omega (arith, eqb-true (place_for queue places) n own)) in
          subst IsLegal (sym (ap (λ (h : List Entry). history queue l ++ h) none
          ∙ append-nil (history queue l)))
          (legal.0 queue))
      | inr other ↦ (let none = not_here places n queue l all.0
          (λ e. eqb-false (place_for queue places) n other e) in
          subst IsLegal (sym (ap (λ (h : List Entry). h ++ history queue (flat ls)) none))
          (legal_from places (n + 1) ls all.1 legal.1 queue))
    ])

-- ---- moves

-- no queue of the second entries has any of the first
abbrev Strange : List Entry → List Entry → Type 0
Strange xs [] = Unit {0}
Strange xs (e ∷ ys) = (history e.queue xs ≡ []) × Strange xs ys

moves_apart : (xs b ys : List Entry) → Strange xs ys →
    moves_after (xs ++ b) ys ≡ moves_after b ys
moves_apart xs b [] strange = refl
moves_apart xs b (e ∷ ys) strange =
    let same : history e.queue (xs ++ b) ≡ history e.queue b =
    filter-append (is_of e.queue) xs b
    ∙ ap (λ (l : List Entry). l ++ history e.queue b) strange.0 in
    ap (λ (h : List Entry). record { entry = e; left = (step (replay h) e.event).left }
    ∷ moves_after ((xs ++ b) ++ e ∷ []) ys) same
    ∙ ap (λ (ms : List Move). move_after b e ∷ ms)
    (ap (λ (l : List Entry). moves_after l ys) (append_assoc xs b (e ∷ []))
    ∙ moves_apart xs (b ++ e ∷ []) ys strange.1)

moves_both : (xs ys : List Entry) → Strange xs ys → moves (xs ++ ys) ≡ moves xs ++ moves ys
moves_both xs ys strange =
    moves_longer [] xs ys
    ∙ ap (λ (ms : List Move). moves xs ++ ms)
    (ap (λ (l : List Entry). moves_after l ys) (sym (append-nil xs))
    ∙ moves_apart xs [] ys strange)

strange_one : (places n m : ℕ) (l more xs : List Entry) → AreHere places n l → n < m →
    Every (λ (e : Entry). place_for e.queue places ≡ m) xs → Strange l more → Strange l (xs ++ more)
strange_one places n m l more [] here less all rest = rest
strange_one places n m l more (x ∷ xs) here less all rest = (
  not_here places n x.queue l here (λ e. absurd (omega (arith, less, e, all.0))),
  strange_one places n m l more xs here less all.1 rest,
)

strange_all : (places n m : ℕ) (l : List Entry) (ls : List (List Entry)) →
    AreHere places n l → n < m → AllFrom (AreHere places) m ls → Strange l (flat ls)
strange_all places n m l [] here less all = tt
strange_all places n m l (x ∷ ls) here less all =
    strange_one places n m l (flat ls) x here less
    (every_of (λ (e : Entry). place_for e.queue places ≡ m) x all.0)
    (strange_all places n (m + 1) l ls here (omega (arith, less)) all.1)

-- the moves of all lists are those of each
pub flat_moves : (f : Move → ℕ) (places n : ℕ) (lists : List (List Entry)) →
    AllFrom (AreHere places) n lists →
    sum_by f (moves (flat lists)) ≡ sum_by (λ (l : List Entry). sum_by f (moves l)) lists
flat_moves f places n [] all = refl
flat_moves f places n (l ∷ ls) all =
    omega (
      arith,
      ap (sum_by f) (moves_both l (flat ls)
          (strange_all places n (n + 1) l ls all.0 (omega arith) all.1)),
      sum_by-append f (moves l) (moves (flat ls)),
      flat_moves f places (n + 1) ls all.1,
      sum_by-cons (λ (x : List Entry). sum_by f (moves x)) l ls,
    )
