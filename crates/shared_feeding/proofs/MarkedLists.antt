-- The marked lists of passes that are split and joined.
use Rattle.std.proofs.Common.{◌++◌, ◌+◌, ◌∙◌, ◌∷◌, ◌≡◌, ◌≤◌, ◌⊎◌, Bool, List, [], ap, arith}
use Rattle.std.proofs.Common.{false, inl, inr, length, refl, subst, suc, sym, true, ℕ}
use Rattle.std.proofs.lemmas.Bool.{cases_Bool, eqb-true, ne_eqb}
use Rattle.std.specs.Prelude.{◌==◌, ◌||◌, if◌then◌else◌, nat_lt}
use mathlib.Core.List.{IsPrefix}
use Rattle.histories.specs.declared.entry.Entry.{Entry}
use Rattle.turn_lock.specs.Places.{Ascends, In, NoneInCommon, insert, longer, merged}
use Rattle.live_runs.specs.Locks.{is_in, marked, marked_from}
use Rattle.live_runs.specs.Seen.{Ours, Seen, Theirs, all_theirs, entries, entry}
use Rattle.shared_feeding.specs.Joining.{IsJoinedOf, IsOneMark}
use Rattle.shared_feeding.proofs.FeederJoin.{joined_none}

-- ---- split

abbrev mark : Bool → Entry → Seen
mark c e = if c then Ours e else Theirs e

entry_marked : (c : Bool) (e : Entry) → entry (mark c e) ≡ e
entry_marked true e = refl
entry_marked false e = refl

entries_marked : (own : ℕ → Bool) (at : ℕ) (es : List Entry) → entries (marked_from own at es) ≡ es
entries_marked own at [] = refl
entries_marked own at (e ∷ es) =
    ap (λ f. f ∷ entries (marked_from own (at + 1) es)) (entry_marked (own at) e)
    ∙ ap (λ fs. e ∷ fs) (entries_marked own (at + 1) es)

marked_none : (at : ℕ) (es : List Entry) → marked_from (is_in []) at es ≡ all_theirs es
marked_none at [] = refl
marked_none at (e ∷ es) = ap (λ zs. Theirs e ∷ zs) (marked_none (at + 1) es)

pub split_list : (own : List ℕ) (seen : List Entry) →
    marked [] seen ≡ all_theirs (entries (marked own seen))
split_list own seen =
    marked_none 0 seen ∙ ap all_theirs (sym (entries_marked (is_in own) 0 seen))

-- ---- places

or_swap : (a b c : Bool) → (a || (b || c)) ≡ (b || (a || c))
or_swap true true c = refl
or_swap true false c = refl
or_swap false b c = refl

or_group : (a b c : Bool) → (a || (b || c)) ≡ ((a || b) || c)
or_group true b c = refl
or_group false b c = refl

in_insert : (k i : ℕ) (xs : List ℕ) → is_in (insert k xs) i ≡ ((i == k) || is_in xs i)
in_insert k i [] = refl
in_insert k i (x ∷ xs) = by (nat_lt k x) (in_insert k i xs)
  where
    by : (c : Bool) → is_in (insert k xs) i ≡ ((i == k) || is_in xs i) →
        is_in (if c then k ∷ x ∷ xs else x ∷ insert k xs) i
        ≡ ((i == k) || ((i == x) || is_in xs i))
    by true rest = refl
    by false rest = ap (λ b. (i == x) || b) rest ∙ or_swap (i == x) (i == k) (is_in xs i)

in_merged : (xs ys : List ℕ) (i : ℕ) → is_in (merged xs ys) i ≡ (is_in xs i || is_in ys i)
in_merged [] ys i = refl
in_merged (x ∷ xs) ys i = in_insert x i (merged xs ys)
    ∙ ap (λ b. (i == x) || b) (in_merged xs ys i) ∙ or_group (i == x) (is_in xs i) (is_in ys i)

is_there : (xs : List ℕ) (i : ℕ) → is_in xs i ≡ true → In i xs
is_there [] i wrong = absurd (cc)
is_there (x ∷ xs) i is = by (cases_Bool (i == x)) (λ rest. is_there xs i rest)
  where
    else_rest : (c : Bool) → c ≡ false → (c || is_in xs i) ≡ true → is_in xs i ≡ true
    else_rest true wrong so = absurd (cc)
    else_rest false none so = so

    by : ((i == x) ≡ true) ⊎ ((i == x) ≡ false) → (is_in xs i ≡ true → In i xs) →
        (i ≡ x) ⊎ In i xs
    by (inl here) on = inl (eqb-true i x here)
    by (inr other) on = inr (on (else_rest (i == x) other is))

beyond : (low high : ℕ) (own : List ℕ) (i : ℕ) → Ascends low high own → high ≤ i →
    is_in own i ≡ false
beyond low high [] i are most = refl
beyond low high (x ∷ own) i are most =
    let less = are.1.0 in
    rw (ne_eqb i x (λ same. absurd (omega (arith, same, less, most))))
    (beyond (x + 1) high own i are.1.1 most)

-- ---- lists

one_mark : (p q r : Bool) (e : Entry) → r ≡ (p || q) → (p ≡ true → q ≡ true → ⊥) →
    IsOneMark (mark p e) (mark q e) (mark r e)
one_mark true true r e is apart = absurd (apart refl refl)
one_mark true false r e is apart = (refl, ap (λ c. mark c e) is)
one_mark false true r e is apart = (refl, ap (λ c. mark c e) is)
one_mark false false r e is apart = (refl, ap (λ c. mark c e) is)

alike : (f g : ℕ → Bool) (at : ℕ) (es : List Entry) → ((i : ℕ) → at ≤ i → f i ≡ g i) →
    marked_from f at es ≡ marked_from g at es
alike f g at [] same = refl
alike f g at (e ∷ es) same =
    ap (λ c. mark c e ∷ marked_from f (at + 1) es) (same at (omega arith))
    ∙ ap (λ zs. mark (g at) e ∷ zs)
    (alike f g (at + 1) es (λ i least. same i (omega (arith, least))))

or_none : (a b : Bool) → b ≡ false → (a || b) ≡ a
or_none true b none = refl
or_none false b none = none

none_or : (a b : Bool) → a ≡ false → (a || b) ≡ b
none_or true b wrong = absurd (cc)
none_or false b none = refl

module _ (a b c : ℕ → Bool) (either : (i : ℕ) → c i ≡ (a i || b i))
    (apart : (i : ℕ) → a i ≡ true → b i ≡ true → ⊥) where
  -- the first list begins the second
  first_begins : (at : ℕ) (es fs : List Entry) →
      ((i : ℕ) → at + length es ≤ i → a i ≡ false) →
      IsJoinedOf (marked_from a at es) (marked_from b at (es ++ fs))
      (marked_from c at (es ++ fs))
  first_begins at [] fs none =
      alike c b at fs (λ i least. either i ∙ none_or (a i) (b i) (none i (omega (arith, least))))
  first_begins at (e ∷ es) fs none = (
    one_mark (a at) (b at) (c at) e (either at) (apart at),
    first_begins (at + 1) es fs
        (λ i least. none i (let n : at + suc (length es) ≤ i = omega (arith, least) in n)),
  )

  -- or the second one the first
  second_begins : (at : ℕ) (es fs : List Entry) →
      ((i : ℕ) → at + length es ≤ i → b i ≡ false) →
      IsJoinedOf (marked_from a at (es ++ fs)) (marked_from b at es)
      (marked_from c at (es ++ fs))
  second_begins at [] fs none = joined_none (marked_from a at fs) (marked_from c at fs)
      (alike c a at fs
      (λ i least. either i ∙ or_none (a i) (b i) (none i (omega (arith, least)))))
  second_begins at (e ∷ es) fs none = (
    one_mark (a at) (b at) (c at) e (either at) (apart at),
    second_begins (at + 1) es fs
        (λ i least. none i (let n : at + suc (length es) ≤ i = omega (arith, least) in n)),
  )

pub joined_lists : (own other : List ℕ) (seen found : List Entry) → Ascends 0 (length seen) own →
    Ascends 0 (length found) other → NoneInCommon own other →
    IsPrefix seen (longer seen found) → IsPrefix found (longer seen found) →
    IsJoinedOf (marked own seen) (marked other found)
    (marked (merged own other) (longer seen found))
joined_lists own other seen found placed others apart first second =
    by (nat_lt (length seen) (length found)) first second
  where
    either : (i : ℕ) → is_in (merged own other) i ≡ (is_in own i || is_in other i)
    either i = in_merged own other i

    no_common : (i : ℕ) → is_in own i ≡ true → is_in other i ≡ true → ⊥
    no_common i one two = apart i (is_there own i one) (is_there other i two)

    by : (c : Bool) → IsPrefix seen (if c then found else seen) →
        IsPrefix found (if c then found else seen) →
        IsJoinedOf (marked own seen) (marked other found)
        (marked (merged own other) (if c then found else seen))
    by true begins same = subst (λ es. IsJoinedOf (marked own seen) (marked other es)
        (marked (merged own other) es)) begins.1
        (first_begins (is_in own) (is_in other) (is_in (merged own other)) either no_common 0 seen
        begins.0 (λ i least. beyond 0 (length seen) own i placed (omega (arith, least))))
    by false same begins = subst (λ es. IsJoinedOf (marked own es) (marked other found)
        (marked (merged own other) es)) begins.1
        (second_begins (is_in own) (is_in other) (is_in (merged own other)) either no_common 0
        found begins.0 (λ i least. beyond 0 (length found) other i others
        (omega (arith, least))))
