-- What one line of a rules file says: iptables-save(8).
use Rattle.std.specs.Prelude.{ℕ, ◌||◌, ◌&&◌, ◌==◌, ◌-◌, false, nat_le, Bool, List, length, take}
use Rattle.std.specs.Prelude.{drop, slice_index, Option, Some, None, option_map, bytes_eq, codes}
use Rattle.std.specs.Prelude.{if◌then◌else◌}
use Rattle.std.specs.List.{list_all}
use Rattle.std.specs.Option.{option_map_or}
use Rattle.hook_chain.specs.declared.rule.Rule.{Rule}
use Rattle.hook_chain.specs.declared.line.Line.{Line}
use Rattle.hook_chain.specs.declared.line.Line.TheVariants as read
use Rattle.text_lines.specs.Words.{◌>>=◌, byte, is_printable, is_digit, is_lower, is_upper}
use Rattle.text_lines.specs.Words.{are_digits, words_of, first_word, first_said, words_after}
use Rattle.text_lines.specs.Words.{cut_at}
use Rattle.hook_chain.specs.Numbers.{longest_name}
use Rattle.hook_chain.specs.RuleLine.{rule_of}

-- What a line says: nothing (it is empty or a comment); that a table of this name begins; a chain's
-- policy; one more rule; that the table ends.
pub data Says : Type 0 where
  Nothing : Says
  Opens : (name : List ℕ) → Says
  Policy : Says
  Adds : (rule : Rule) → Says
  Closes : Says

-- lower-case letters, digits, `-` and `_`
abbrev pub is_table_byte : ℕ → Bool
is_table_byte b = is_lower b || is_digit b || (b == byte "-") || (b == byte "_")

abbrev pub is_letter : ℕ → Bool
is_letter b = is_lower b || is_upper b

abbrev pub has_name_length : List ℕ → Bool
has_name_length name = nat_le 1 (length name) && nat_le (length name) longest_name

abbrev pub is_table_name : List ℕ → Bool
is_table_name name = has_name_length name && list_all is_table_byte name

abbrev pub is_chain_name : List ℕ → Bool
is_chain_name name = has_name_length name && list_all is_letter name

-- [N:N]
unfoldable pub is_counters : List ℕ → Bool
is_counters word =
    nat_le 2 (length word) && (slice_index word 0 == byte "[")
    && (slice_index word (length word - 1) == byte "]")
    && option_map_or (λ parts. are_digits parts.0 && are_digits parts.1)
    (cut_at (byte ":") (take (length word - 2) (drop 1 word))) false

-- `*NAME` alone
unfoldable pub opening : List ℕ → List (List ℕ) → Option Says
opening name words = if is_table_name name && (length words == 0) then Some (Opens name) else None

-- `:NAME ACCEPT [N:N]`
unfoldable pub policy : List ℕ → List (List ℕ) → Option Says
policy name words = do
  rest ← words_after (codes "ACCEPT") words
  counters ← first_word rest
  if is_chain_name name && is_counters counters.0 && (length counters.1 == 0) then Some Policy
      else None

-- a line by its first word, and the words after it
unfoldable pub says_by : List ℕ → List (List ℕ) → Option Says
says_by word words =
    if slice_index word 0 == byte "*" then opening (drop 1 word) words
    else if slice_index word 0 == byte ":" then policy (drop 1 word) words
    else if bytes_eq word (codes "-A") then option_map Adds (rule_of words)
    else if bytes_eq word (codes "COMMIT") && (length words == 0) then Some Closes
    else None

-- what a line says; none where no form allows it
unfoldable pub says : List ℕ → Option Says
says line =
    if list_all is_printable line
    then option_map_or (λ w. says_by w.0 w.1) (first_said (words_of line)) (Some Nothing)
    else None

-- a line as the reader has it, which points into the text
abbrev pub said : Line → Says
said read.Nothing = Nothing
said (read.Opens name) = Opens name.now
said read.Policy = Policy
said (read.Adds rule) = Adds rule
said read.Closes = Closes
