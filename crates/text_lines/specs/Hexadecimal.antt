-- Bytes as words: lower-case hexadecimal, two digits a byte, and `-` for none.
use Rattle.std.specs.Prelude.{ℕ, ◌≡◌, ◌≤◌, ◌||◌, ◌&&◌, ◌==◌, ◌/◌, ◌%◌, nat_le, Bool, List, [], ◌∷◌}
use Rattle.std.specs.Prelude.{length, Option, Some, None, Result, Ok, Err, bytes_eq, codes}
use Rattle.std.specs.Prelude.{if◌then◌else◌}
use Rattle.std.specs.List.{list_all}
use Rattle.hex.specs.declared.error.FromHexError.{FromHexError}
use Rattle.hex.specs.Hex.{IsBytes, decode_of, encode_lower}
use Rattle.text_lines.specs.Numbers.{byte_digits}
use Rattle.text_lines.specs.Words.{is_digit, is_from_to}

-- the word that spells these bytes
abbrev pub hexadecimal : List ℕ → List ℕ
hexadecimal [] = codes "-"
hexadecimal (b ∷ bs) = encode_lower (b ∷ bs)

-- a word spells these bytes, which are at most so many
pub record IsSpelled (most : ℕ) (word bytes : List ℕ) : Type 0 where
  pub spelled : word ≡ hexadecimal bytes
  pub few : length bytes ≤ most
  pub are_bytes : IsBytes bytes

-- 0 to 9, and a to f
abbrev pub is_lower_digit : ℕ → Bool
is_lower_digit b = is_digit b || is_from_to "a" "f" b

-- one pair of these digits or more, and at most so many
abbrev pub are_pairs : ℕ → List ℕ → Bool
are_pairs most word =
    nat_le 1 (length word) && (length word % byte_digits == 0)
    && nat_le (length word / byte_digits) most && list_all is_lower_digit word

-- what was decoded
abbrev pub decoded : Result (List ℕ) FromHexError → Option (List ℕ)
decoded (Ok bytes) = Some bytes
decoded (Err e) = None

-- the bytes that a word spells, where `-` spells the empty list; None for a word of another form,
-- and for one of more bytes than `most`
unfoldable pub bytes_of : ℕ → List ℕ → Option (List ℕ)
bytes_of most word =
    if bytes_eq word (codes "-") then Some []
    else if are_pairs most word then decoded (decode_of word)
    else None
