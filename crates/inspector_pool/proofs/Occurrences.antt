-- How often a number stands in a list.
use Rattle.std.proofs.Common.{◌≡◌, ℕ, zero, suc, ◌+◌, ◌<◌, ◌≤◌, List, [], ◌∷◌, ◌++◌, nat_eq}
use Rattle.std.proofs.Common.{refl, ap, ◌∙◌, arith}
use Rattle.std.specs.List.{range_with_len}
use mathlib.Core.Logic.{dite}
use native.Mathlib.Decide.{ℕ_discrete}
use borrow.Author.Tests.{eq-eqb, ne_eqb}
use Rattle.inspector_pool.specs.Answers.{times, one_where}
use Rattle.inspector_pool.specs.Rule.{jobs}

pub times_append : (x : ℕ) (xs ys : List ℕ) → times x (xs ++ ys) ≡ times x xs + times x ys
times_append x [] ys = omega arith
times_append x (z ∷ xs) ys = let r = times_append x xs ys in omega arith

pub hit : (x : ℕ) → one_where (nat_eq x x) ≡ 1
hit x = ap one_where (eq-eqb x x refl)

pub miss : (y x : ℕ) → ¬ (y ≡ x) → one_where (nat_eq y x) ≡ 0
miss y x ne = ap one_where (ne_eqb y x ne)

-- one number more in a range
range_more : (a n : ℕ) → range_with_len a (suc n) ≡ range_with_len a n ++ (a + n) ∷ []
range_more a zero = ap (λ (k : ℕ). k ∷ []) (omega arith)
range_more a (suc n) =
    let k : a + 1 + n ≡ a + suc n = omega arith in
    ap (λ (l : List ℕ). a ∷ l)
    (range_more (a + 1) n ∙ ap (λ (k : ℕ). range_with_len (a + 1) n ++ k ∷ []) k)

-- one job more
pub times_more : (x n : ℕ) → times x (jobs (n + 1)) ≡ times x (jobs n) + times x ((n + 1) ∷ [])
times_more x n =
    let k : n + 1 ≡ suc n = omega arith in
    let m : 1 + n ≡ n + 1 = omega arith in
    ap (λ (j : ℕ). times x (range_with_len 1 j)) k
    ∙ ap (times x) (range_more 1 n ∙ ap (λ (j : ℕ). range_with_len 1 n ++ j ∷ []) m)
    ∙ times_append x (range_with_len 1 n) ((n + 1) ∷ [])

-- a number that stands in a range lies in it
pub in_range : (x a n : ℕ) → 0 < times x (range_with_len a n) → (a ≤ x) × (x < a + n)
in_range x a zero h = absurd (omega arith)
in_range x a (suc n) h =
    dite (ℕ_discrete a x) (λ e. (omega arith, omega arith))
    (λ ne.
    let m = miss a x ne in
    let r = in_range x (a + 1) n (omega arith) in
    let l = r.0 in
    let u = r.1 in (omega arith, omega arith))

-- one before the range doesn't stand in it
none_before : (x a n : ℕ) → x < a → times x (range_with_len a n) ≡ 0
none_before x a zero h = refl
none_before x a (suc n) h =
    let m = miss a x (λ e. omega arith) in
    let r = none_before x (a + 1) n (omega arith) in omega arith

-- each number of a range stands in it once
pub once : (x a n : ℕ) → a ≤ x → x < a + n → times x (range_with_len a n) ≡ 1
once x a zero l h = absurd (omega arith)
once x a (suc n) l h =
    dite (ℕ_discrete a x)
    (λ e.
    let m : one_where (nat_eq a x) ≡ 1 = ap one_where (eq-eqb a x e) in
    let r = none_before x (a + 1) n (omega arith) in omega arith)
    (λ ne.
    let m = miss a x ne in
    let r = once x (a + 1) n (omega arith) (omega arith) in omega arith)
