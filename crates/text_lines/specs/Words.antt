-- The bytes of a line, and its words. Bytes are ASCII codes.
use Prim.Native.String.{String}
use Rattle.std.specs.Prelude.{ℕ, ◌≡◌, ◌⊎◌, ◌||◌, ◌&&◌, ◌==◌, not, nat_le, Bool, List, [], ◌∷◌}
use Rattle.std.specs.Prelude.{◌++◌, ◌-◌, ◌<◌, ◌≤◌, true, length, drop}
use Rattle.std.specs.Prelude.{slice_index, filter, Option, Some, None, bytes_eq, codes, option_map}
use Rattle.std.specs.Prelude.{if◌then◌else◌}
use Rattle.std.specs.List.{list_all, slice_split}
use Rattle.text_lines.specs.Numbers.{tab}

infixl 10 ◌>>=◌
abbrev pub ◌>>=◌ : {A B : Type 0} → Option A → (A → Option B) → Option B
None >>= f = None
(Some x) >>= f = f x

-- the byte of this text of one byte
abbrev pub byte : String → ℕ
byte text = slice_index (codes text) 0

-- the bytes from one to another
abbrev pub is_from_to : String → String → ℕ → Bool
is_from_to first last b = nat_le (byte first) b && nat_le b (byte last)

-- a space or a tab
abbrev pub is_blank : ℕ → Bool
is_blank b = (b == byte " ") || (b == tab)

-- printable ASCII and the tab
abbrev pub is_printable : ℕ → Bool
is_printable b = (b == tab) || is_from_to " " "~" b

abbrev pub is_digit : ℕ → Bool
is_digit b = is_from_to "0" "9" b

abbrev pub is_lower : ℕ → Bool
is_lower b = is_from_to "a" "z" b

abbrev pub is_upper : ℕ → Bool
is_upper b = is_from_to "A" "Z" b

-- one digit or more
abbrev pub are_digits : List ℕ → Bool
are_digits word = nat_le 1 (length word) && list_all is_digit word

-- what stands between blanks, as far as it isn't empty
unfoldable pub words_of : List ℕ → List (List ℕ)
words_of line = filter (λ w. not (length w == 0)) (slice_split is_blank line)

-- a word and the words after it
abbrev pub first_word : List (List ℕ) → Option (List ℕ × List (List ℕ))
first_word [] = None
first_word (w ∷ ws) = Some (w, ws)

-- the same of a line that says something; a line that is empty or begins with `#` says nothing
abbrev pub first_said : List (List ℕ) → Option (List ℕ × List (List ℕ))
first_said [] = None
first_said (w ∷ ws) = if slice_index w 0 == byte "#" then None else Some (w, ws)

-- the words of a line that says nothing: there are none, or the first begins with `#`
abbrev pub IsPassedOver : List (List ℕ) → Type 0
IsPassedOver words =
    (words ≡ []) ⊎ ((comment : List ℕ) × (more : List (List ℕ))
    × (words ≡ (codes "#" ++ comment) ∷ more))

-- what is left of a line behind a word: its end from some place on, which is empty or begins with a
-- blank
pub record IsAtWordEnd (line rest : List ℕ) : Type 0 where
  pub no_longer : length rest ≤ length line
  pub end : rest ≡ drop (length line - length rest) line
  pub apart : 0 < length rest → is_blank (slice_index rest 0) ≡ true

-- the words after this one, where it is the first
abbrev pub words_after : List ℕ → List (List ℕ) → Option (List (List ℕ))
words_after word [] = None
words_after word (w ∷ ws) = if bytes_eq w word then Some ws else None

-- the two parts of a word round the first of these bytes in it
abbrev pub cut_at : ℕ → List ℕ → Option (List ℕ × List ℕ)
cut_at c [] = None
cut_at c (b ∷ bs) =
    if b == c then Some ([], bs) else option_map (λ parts. (b ∷ parts.0, parts.1)) (cut_at c bs)

-- the words before the first of these words, and those after it
abbrev pub cut_at_word : List ℕ → List (List ℕ) → Option (List (List ℕ) × List (List ℕ))
cut_at_word word [] = None
cut_at_word word (w ∷ ws) =
    if bytes_eq w word then Some ([], ws)
    else option_map (λ parts. (w ∷ parts.0, parts.1)) (cut_at_word word ws)
