-- Rows by port and queue.
use Rattle.std.proofs.Common.{◌≡◌, ℕ, List, [], ◌∷◌, ◌++◌, Option, Some, None, true, false}
use Rattle.std.proofs.Common.{refl, sym, ap, ◌∙◌, subst, inl, inr, cond, true≢false}
use Rattle.std.specs.BTreeMap.{get, is_at}
use Rattle.std.specs.Map.{lookup}
use Rattle.std.specs.Ordering.{nat_cmp, ordering_then, is_eq}
use Rattle.std.specs.Cmp.{nat_cmp_is}
use Rattle.std.specs.declared.cmp.Ordering.{Ordering}
use Rattle.std.specs.declared.cmp.Ordering.TheVariants.{Less, Equal, Greater}
use Rattle.std.proofs.lemmas.Bool.{cases_Bool}
use Rattle.std.proofs.lemmas.Map.Lookups.{exact_unsigned, exact_pairs}
use Rattle.port_audit.specs.declared.dealing.Side.{Side}
use Rattle.port_audit.specs.Dealing.{RowMap, row_in, row_at, IsKept, AreKept, KeepsOthers, Pushes}
use Rattle.port_audit.specs.Dealing.{Opens, Takes, IsTaken, TakesFirst, is_empty_row, side_cmp}

-- ---- sides

equal : (o : Ordering) → is_eq o ≡ true → o ≡ Equal
equal Less h = absurd (cc)
equal Equal h = refl
equal Greater h = absurd (cc)

pub same_side : (a b : Side) → is_at (side_cmp a) b ≡ true → a ≡ b
same_side a b h =
    ap (λ (p : ℕ × ℕ). record { port = p.0; queue = p.1 })
    (exact_pairs nat_cmp nat_cmp exact_unsigned exact_unsigned (a.port, a.queue) (b.port, b.queue)
    (equal (side_cmp a b) h))

alike : (n : ℕ) → nat_cmp n n ≡ Equal
alike n = sym (nat_cmp_is n n Equal refl)

pub side_itself : (a : Side) → is_at (side_cmp a) a ≡ true
side_itself a =
    ap (λ o. is_eq (ordering_then o (nat_cmp a.queue a.queue))) (alike a.port)
    ∙ ap is_eq (alike a.queue)

pub other_port : (a b : Side) → (a.port ≡ b.port → ⊥) → is_at (side_cmp a) b ≡ false
other_port a b differ = elim (cases_Bool (is_at (side_cmp a) b)) [
  | inl same ↦ absurd (differ (ap (λ (s : Side). s.port) (same_side a b same)))
  | inr other ↦ other
]

pub other_queue : (a b : Side) → (a.queue ≡ b.queue → ⊥) → is_at (side_cmp a) b ≡ false
other_queue a b differ = elim (cases_Bool (is_at (side_cmp a) b)) [
  | inl same ↦ absurd (differ (ap (λ (s : Side). s.queue) (same_side a b same)))
  | inr other ↦ other
]

-- ---- rows that are kept

module _ {T : Type 0} where
  each_kept : (at : Side) (old new : RowMap T) → KeepsOthers at old new →
      IsKept (get side_cmp new at) → AreKept old → AreKept new
  each_kept at old new others own kept s = elim (cases_Bool (is_at (side_cmp at) s)) [
    | inl here ↦ subst (λ b. IsKept (get side_cmp new b)) (same_side at s here) own
    | inr other ↦ subst IsKept (sym (others s other)) (kept s)
  ]

  pub take_kept : (at : Side) (x : T) (old new : RowMap T) → Takes at x old new → AreKept old →
      AreKept new
  take_kept at x old new takes kept = each_kept at old new takes.others takes.left kept

  -- ---- taking

  not_empty : (o : Option (List T)) → is_empty_row o ≡ false → IsKept o
  not_empty None h = tt
  not_empty (Some []) h = absurd (true≢false h)
  not_empty (Some (x ∷ xs)) h = tt

  empty_is : (o : Option (List T)) → is_empty_row o ≡ true → row_in o ≡ []
  empty_is None h = refl
  empty_is (Some []) h = refl
  empty_is (Some (x ∷ xs)) h = absurd (true≢false (sym h))

  -- nothing was there
  none_taken : (at : Side) (old new : RowMap T) → TakesFirst at old new None →
      row_at old at ≡ []
  none_taken at old new first = first.none refl

  -- the row isn't empty, or wasn't there
  pub taken_left : (at : Side) (old new : RowMap T) (first : Option T) →
      TakesFirst at old new first → is_empty_row (get side_cmp new at) ≡ false →
      IsTaken at old new first
  taken_left at old new None takes some = none_taken at old new takes
  taken_left at old new (Some x) takes some = record {
    own = takes.own;
    others = takes.others;
    left = not_empty (get side_cmp new at) some;
  }

  -- it is empty, and taken away
  pub taken_away : (at : Side) (old between new : RowMap T) (first : Option T) →
      TakesFirst at old between first → is_empty_row (get side_cmp between at) ≡ true →
      get side_cmp new at ≡ None → KeepsOthers at between new → IsTaken at old new first
  taken_away at old between new None takes none away others = none_taken at old between takes
  taken_away at old between new (Some x) takes none away others = record {
    own = takes.own ∙ ap (λ xs. x ∷ xs) (empty_is (get side_cmp between at) none
        ∙ sym (ap row_in away));
    others = λ s other. others s other ∙ takes.others s other;
    left = subst IsKept (sym away) tt;
  }

  -- ---- no rows

  pub no_rows : (rows : RowMap T) → rows.entries ≡ [] → (s : Side) → row_at rows s ≡ []
  no_rows rows none s = ap (λ es. row_in (lookup (is_at (side_cmp s)) es)) none

  first_is_kept : (es : List (Side × List T)) (e : Side × List T) →
      IsKept (lookup (is_at (side_cmp e.0)) (e ∷ es)) →
      row_in (lookup (is_at (side_cmp e.0)) (e ∷ es)) ≡ [] → ⊥
  first_is_kept es (s, row) kept none =
      by row (subst (λ b. IsKept (cond b (Some row) (lookup (is_at (side_cmp s)) es)))
      (side_itself s) kept)
      (ap (λ b. row_in (cond b (Some row) (lookup (is_at (side_cmp s)) es))) (sym (side_itself s))
      ∙ none)
    where
      by : (xs : List T) → IsKept (Some xs) → xs ≡ [] → ⊥
      by [] k n = k
      by (x ∷ xs) k n = absurd (cc)

  pub rows_none : (rows : RowMap T) → AreKept rows → ((s : Side) → row_at rows s ≡ []) →
      rows.entries ≡ []
  rows_none rows kept none = by rows.entries kept none
    where
      by : (es : List (Side × List T)) →
          ((s : Side) → IsKept (lookup (is_at (side_cmp s)) es)) →
          ((s : Side) → row_in (lookup (is_at (side_cmp s)) es) ≡ []) → es ≡ []
      by [] kept_ none_ = refl
      by (e ∷ es) kept_ none_ = absurd (first_is_kept es e (kept_ e.0) (none_ e.0))

  -- a row that is there, and then has one more
  pub pushed : (at : Side) (x : T) (old between new : RowMap T) → Opens at old between →
      Pushes at x between new → Pushes at x old new
  pushed at x old between new opens pushes = record {
    own = pushes.own ∙ ap (λ xs. xs ++ x ∷ []) opens.own;
    others = λ s other. pushes.others s other ∙ opens.others s other;
  }
