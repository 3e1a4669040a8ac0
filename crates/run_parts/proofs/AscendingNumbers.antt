-- Numbers that ascend, with one more behind; and histories with one entry more.
use Rattle.std.proofs.Common.{◌≡◌, ◌≤◌, ℕ, List, [], ◌∷◌, ◌++◌, Bool}
use Rattle.std.proofs.Common.{true, false, refl, sym, subst, inl, inr, arith, append-nil}
use Rattle.std.specs.Prelude.{if◌then◌else◌}
use Rattle.std.proofs.lemmas.List.Elements.{filter-append}
use Rattle.histories.specs.declared.entry.Entry.{Entry}
use Rattle.histories.specs.History.{history, is_of}
use Rattle.run_parts.specs.Ascending.{AscendFrom}
use Rattle.run_parts.specs.Underway.{last_of, IsNow, Rise}

pub ascend_push : (low : ℕ) (xs : List ℕ) (k : ℕ) → AscendFrom low xs → last_of low xs ≤ k →
    AscendFrom low (xs ++ k ∷ [])
ascend_push low [] k are least = (least, tt)
ascend_push low (x ∷ xs) k are least = (are.0, ascend_push x xs k are.1 least)

pub last_push : (low : ℕ) (xs : List ℕ) (k : ℕ) → last_of low (xs ++ k ∷ []) ≡ k
last_push low [] k = refl
last_push low (x ∷ xs) k = last_push x xs k

pub rise_later : (k l : ℕ) (xs : List ℕ) → k ≤ l → Rise k xs → Rise l xs
rise_later k l xs less is = record { ascend = is.ascend; last = omega (arith, is.last, less) }

pub rise_push : (k : ℕ) (xs ys : List ℕ) → IsNow k ys → Rise k xs → Rise k (xs ++ ys)
rise_push k xs ys (inl none) is =
    subst (λ zs. Rise k (xs ++ zs)) (sym none) (subst (Rise k) (sym (append-nil xs)) is)
rise_push k xs ys (inr one) is = subst (λ zs. Rise k (xs ++ zs)) (sym one) (record {
  ascend = ascend_push 0 xs k is.ascend is.last;
  last = omega (arith, last_push 0 xs k);
})

-- what holds of a queue's history and goes on with an entry, holds of it with the entry of any
-- queue
pub history_push : (Q : List Entry → Type 0) (queue : ℕ) (es : List Entry) (e : Entry) →
    Q (history queue es) → Q (history queue es ++ e ∷ []) → Q (history queue (es ++ e ∷ []))
history_push Q queue es e was now =
    subst Q (sym (filter-append (is_of queue) es (e ∷ []))) (by (is_of queue e))
  where
    by : (c : Bool) → Q (history queue es ++ (if c then e ∷ [] else []))
    by true = now
    by false = subst Q (sym (append-nil (history queue es))) was

-- the same, where the entry is known to be the queue's
pub history_push_own : (Q : List Entry → Type 0) (queue : ℕ) (es : List Entry) (e : Entry) →
    (is_of queue e ≡ false → Q (history queue es)) →
    (is_of queue e ≡ true → Q (history queue es ++ e ∷ [])) → Q (history queue (es ++ e ∷ []))
history_push_own Q queue es e other own =
    subst Q (sym (filter-append (is_of queue) es (e ∷ []))) (by (is_of queue e) other own)
  where
    by : (c : Bool) → (c ≡ false → Q (history queue es)) →
        (c ≡ true → Q (history queue es ++ e ∷ [])) →
        Q (history queue es ++ (if c then e ∷ [] else []))
    by true other own = own refl
    by false other own = subst Q (sym (append-nil (history queue es))) (other refl)
