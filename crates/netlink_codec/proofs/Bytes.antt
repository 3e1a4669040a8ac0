-- The bytes of the number that bytes read as are those bytes.
use Rattle.std.proofs.Common.{◌/◌, ◌%◌, ◌≡◌, ℕ, zero, suc, ◌+◌, ◌*◌, ◌^◌, ◌<◌, ◌≤◌, List, [], ◌∷◌}
use Rattle.std.proofs.Common.{◌++◌, length, take, drop, refl, sym, ap, ap₂, ◌∙◌, arith}
use Rattle.std.proofs.Math.Nat.{div-div-eq-div-mul, pow-succ'}
use Rattle.std.proofs.Math.Seq.{take-add}
use Rattle.std.proofs.lemmas.List.{get_or-drop, length-drop}
use Rattle.std.specs.Int.{byte_at, bytes_low_first}
use Rattle.byteorder.specs.Endian.{little_bytes, little_number}
use Rattle.byteorder.specs.Numbers.{little_from-cons}
use Rattle.netlink_codec.specs.Messages.{AreBytes}

pub AreBytes-drop : (n : ℕ) (xs : List ℕ) → AreBytes xs → AreBytes (drop n xs)
AreBytes-drop n xs h i = rw get_or-drop (h (n + i))

-- above a lowest byte stands the number that it was put under
byte_at-under : (i x a : ℕ) → a < 256 → byte_at (suc i) (a + 256 * x) ≡ byte_at i x
byte_at-under zero x a h =
    let e : (a + 256 * x) / 256 ≡ x = omega arith in
    ap (λ (y : ℕ). y % 256) e
byte_at-under (suc i) x a h =
    let e : (a + 256 * x) / 256 ≡ x = omega arith in
    let shift : (a + 256 * x) / 256 ^ suc (suc i) ≡ (a + 256 * x) / 256 / 256 ^ suc i =
    ap (λ (p : ℕ). (a + 256 * x) / p) (pow-succ' 256 (suc i))
    ∙ sym (div-div-eq-div-mul (a + 256 * x) 256 (256 ^ suc i)) in
    ap (λ (y : ℕ). y % 256) (shift ∙ ap (λ (y : ℕ). y / 256 ^ suc i) e)

bytes_low_first-under : (i k x a : ℕ) → a < 256 →
    bytes_low_first (suc i) k (a + 256 * x) ≡ bytes_low_first i k x
bytes_low_first-under i zero x a h = refl
bytes_low_first-under i (suc k) x a h =
    ap₂ ◌∷◌ (byte_at-under i x a h) (bytes_low_first-under (suc i) k x a h)

-- the bytes of the number in the first n bytes are those bytes
little_bytes-number : (n : ℕ) (xs : List ℕ) → AreBytes xs → n ≤ length xs →
    little_bytes n (little_number n xs) ≡ take n xs
little_bytes-number zero xs h l = refl
little_bytes-number (suc n) [] h l = absurd (omega arith)
little_bytes-number (suc n) (a ∷ xs) h l =
    let low : a < 256 = h 0 in
    let rest : AreBytes xs = λ i. h (suc i) in
    let moved = little_from-cons 0 n a xs in
    let number : little_number (suc n) (a ∷ xs) ≡ a + 256 * little_number n xs =
    ap (λ (y : ℕ). a + 256 * y) moved in
    let first : byte_at 0 (a + 256 * little_number n xs) ≡ a = omega arith in
    rw number (ap₂ ◌∷◌ first (bytes_low_first-under 0 n (little_number n xs) a low
    ∙ little_bytes-number n xs rest (omega arith)))

-- a field behind a front of the bytes makes a longer front
pub field_behind : (at n : ℕ) (bytes : List ℕ) → AreBytes bytes → at + n ≤ length bytes →
    take at bytes ++ little_bytes n (little_number n (drop at bytes)) ≡ take (at + n) bytes
field_behind at n bytes h long =
    let field : little_bytes n (little_number n (drop at bytes)) ≡ take n (drop at bytes) =
    little_bytes-number n (drop at bytes) (AreBytes-drop at bytes h)
    (omega (arith, length-drop at bytes)) in
    ap (λ (xs : List ℕ). take at bytes ++ xs) field ∙ sym (take-add at n bytes)
