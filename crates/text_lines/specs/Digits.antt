-- The numbers that words spell, from their digits. All are below 2 ^ 32.
use Rattle.std.specs.Prelude.{ℕ, ◌+◌, ◌-◌, ◌*◌, ◌^◌, ◌&&◌, ◌==◌, nat_lt, List, [], ◌∷◌, length}
use Rattle.std.specs.Prelude.{take, drop, slice_index, Option, Some, None, bytes_eq, codes}
use Rattle.std.specs.Prelude.{if◌then◌else◌}
use Rattle.text_lines.specs.Words.{◌>>=◌, byte, is_digit, is_from_to}
use Rattle.text_lines.specs.Numbers.{decimal_radix, hexadecimal_radix, first_letter_digit}

abbrev pub below : ℕ → ℕ → Option ℕ
below limit n = if nat_lt n limit then Some n else None

-- what a digit stands for: 0 to 9, then a to f in either case
abbrev pub digit_of : ℕ → Option ℕ
digit_of b =
    if is_digit b then Some (b - byte "0")
    else if is_from_to "a" "f" b then Some (b - byte "a" + first_letter_digit)
    else if is_from_to "A" "F" b then Some (b - byte "A" + first_letter_digit)
    else None

-- a digit of this radix
abbrev pub digit_in : ℕ → ℕ → Option ℕ
digit_in radix b = digit_of b >>= below radix

-- the number that these digits of a radix make of what stands before them
unfoldable pub digits_onto : ℕ → ℕ → List ℕ → Option ℕ
digits_onto radix n [] = Some n
digits_onto radix n (b ∷ bs) = do
  d ← digit_in radix b
  digits_onto radix (n * radix + d) bs

-- one digit or more of a radix, below 2 ^ 32
unfoldable pub number : ℕ → List ℕ → Option ℕ
number radix word = do
  n ← (if length word == 0 then None else digits_onto radix 0 word)
  below (2 ^ 32) n

-- no leading zero but in `0` itself
unfoldable pub decimal : List ℕ → Option ℕ
decimal word =
    if nat_lt 1 (length word) && (slice_index word 0 == byte "0") then None
    else number decimal_radix word

abbrev pub decimal_below : ℕ → List ℕ → Option ℕ
decimal_below limit word = do
  n ← decimal word
  below limit n

-- decimal, or 0x and hexadecimal digits
unfoldable pub wide : List ℕ → Option ℕ
wide word =
    if bytes_eq (take 2 word) (codes "0x") then number hexadecimal_radix (drop 2 word)
    else decimal word
