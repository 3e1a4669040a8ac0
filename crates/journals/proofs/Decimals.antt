-- How many digits numbers have.
use Rattle.std.proofs.Common.{◌≡◌, ℕ, suc, zero, ◌+◌, ◌/◌, ◌%◌, ◌^◌, ◌≤◌, ◌<◌, ◌∷◌, []}
use Rattle.std.proofs.Common.{length, decimal, arith, ap, sym, ◌∙◌, length-append}
use Rattle.std.proofs.Math.Nat.{div-one, div-div-eq-div-mul, pow-succ', one-le-pow}
use Rattle.std.proofs.lemmas.Fmt.{decimal_digit, decimal_step}
use Rattle.std.proofs.lemmas.Nat.{div_below, le-div}

pub one_digit : (n : ℕ) → n < 10 → length (decimal n) ≡ 1
one_digit n few = ap length (decimal_digit n few)

one_more : (n : ℕ) → 10 ≤ n → n < 2 ^ 64 → length (decimal n) ≡ length (decimal (n / 10)) + 1
one_more n many fits =
    ap length (decimal_step n many fits) ∙ length-append (decimal (n / 10)) ((48 + n % 10) ∷ [])

-- as many more than the number without its last ones
pub more : (k n : ℕ) → 10 ^ k ≤ n → n < 2 ^ 64 →
    length (decimal n) ≡ k + length (decimal (n / 10 ^ k))
more zero n many fits = omega (arith, ap (λ m. length (decimal m)) (div-one n))
more (suc k) n many fits =
    let p = pow-succ' 10 k in
    let some : 1 ≤ 10 ^ k = one-le-pow k 10 (omega arith) in
    let left : 10 ^ k ≤ n / 10 = le-div (10 ^ k) n 10 (omega arith) (omega (arith, p, many)) in
    let same : n / 10 / 10 ^ k ≡ n / 10 ^ suc k
    = div-div-eq-div-mul n 10 (10 ^ k) ∙ ap (λ m. n / m) (sym p) in
    omega (
      arith,
      one_more n (omega (arith, p, many, some)) fits,
      more k (n / 10) left (omega (arith, fits)),
      ap (λ m. length (decimal m)) same,
    )

-- a number between two powers of ten
pub digits_are : (k n : ℕ) → 10 ^ k ≤ n → n < 10 ^ suc k → n < 2 ^ 64 →
    length (decimal n) ≡ suc k
digits_are k n many few fits =
    let some : 1 ≤ 10 ^ k = one-le-pow k 10 (omega arith) in
    let left = div_below n (10 ^ k) 10 some (omega (arith, few, pow-succ' 10 k)) in
    omega (arith, more k n many fits, one_digit (n / 10 ^ k) left)
