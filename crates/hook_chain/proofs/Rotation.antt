-- A rotation of a word is a sum: what stays in the word and what comes in below share no bit.
use Rattle.std.proofs.Common.{◌≡◌, ℕ, ◌+◌, ◌-◌, ◌*◌, ◌/◌, ◌%◌, ◌^◌, ◌<◌, ◌≤◌, refl, subst, arith}
use Rattle.std.proofs.Common.{add-zero}
use Rattle.std.specs.Prelude.{bit_or}
use Rattle.std.specs.Int.{w32, rotate_left}
use Rattle.std.proofs.Math.Nat.{mul-mod_left, mod-eq_of_lt}
use Rattle.std.proofs.lemmas.Nat.{mod-pow-add, shl-shr, or_shifted, shr_below}
use Rattle.hook_chain.specs.Balance.{rotated}

moved : (x j k : ℕ) → x * 2 ^ k % 2 ^ (j + k) ≡ x % 2 ^ j * 2 ^ k
moved x j k = rw (mod-pow-add (x * 2 ^ k) j k, shl-shr x k, mul-mod_left x (2 ^ k), add-zero) refl

apart : (x j k : ℕ) → x < 2 ^ (k + j) →
    bit_or (x * 2 ^ k % 2 ^ (j + k)) (x / 2 ^ j) ≡ x * 2 ^ k % 2 ^ (j + k) + x / 2 ^ j
apart x j k h = rw (moved x j k) (or_shifted (x % 2 ^ j) k (x / 2 ^ j) (shr_below x k j h))

apart_at : (x k : ℕ) → x < 2 ^ 32 → k ≤ 32 →
    bit_or (x * 2 ^ k % 2 ^ 32) (x / 2 ^ (32 - k)) ≡ rotated x k
apart_at x k h le =
    let sum : 32 - k + k ≡ 32 = omega arith in
    let turned : 32 ≡ k + (32 - k) = omega arith in
    let at = apart x (32 - k) k (subst (λ (n : ℕ). x < 2 ^ n) turned h) in
    rw sum at at

-- the code's rotation, at 1 to 31 places
pub rotate_left-is : (x k : ℕ) → x < 2 ^ 32 → 1 ≤ k → k < 32 → rotate_left w32 x k ≡ rotated x k
rotate_left-is x k h low high =
    let places : k % 32 ≡ k = mod-eq_of_lt high in
    let less : 32 - k < 32 = omega arith in
    let rest : (32 - k) % 32 ≡ 32 - k = mod-eq_of_lt less in
    let le : k ≤ 32 = omega arith in
    rw (places, rest) (apart_at x k h le)
